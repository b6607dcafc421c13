mod AcceptingLoginsLemmas
mod AcceptingRowsLemmas
pub mod AddedLemmas
mod Base64Lemmas
mod CookiesLemmas
mod CountedLemmas
pub mod DecidedLemmas
mod EntriesLemmas
mod FinishingLemmas
mod NoncesLemmas
mod ProvesLemmas
mod SizesLemmas
pub mod TakenLemmas
pub mod TypesLemmas
