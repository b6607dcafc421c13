pub mod Writing
pub mod Slices
pub mod SlicesLaws
pub mod Lists
