pub mod AlgorithmsLemmas
pub mod ErrorValuesLemmas
pub mod ListsLemmas
mod OctetsLemmas
mod AlgorithmEntriesLemmas
pub mod TextValuesLemmas
mod TypesLemmas
mod XorLemmas
mod XoredTextLemmas
