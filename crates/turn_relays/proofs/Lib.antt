pub mod NewestLemmas
pub mod SlotsLemmas
mod DistinctLemmas
mod FollowingLemmas
mod ListingLemmas
mod GrantingLemmas
mod FactsLemmas
mod IteratingLemmas
