pub mod ChecksumsLemmas
