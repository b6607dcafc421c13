pub mod CrcTablesLemmas
mod BlocksLemmas
