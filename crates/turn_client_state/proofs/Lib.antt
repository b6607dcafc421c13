pub mod ListsLemmas
pub mod NumbersLemmas
pub mod WakingLemmas
pub mod WaysLemmas
