mod RawLemmas
mod EncodingLemmas
pub mod WireReadBackLemmas
mod CompareLemmas
mod CoveredLemmas
mod IntegrityLemmas
pub mod AddressesLemmas
pub mod ReadBackLemmas
mod TextsLemmas
