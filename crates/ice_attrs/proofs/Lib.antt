pub mod SplittingLemmas
