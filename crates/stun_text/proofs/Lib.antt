mod HexLemmas
mod GroupsLemmas
mod TextsLemmas
pub mod Joining
pub mod ListsLemmas
