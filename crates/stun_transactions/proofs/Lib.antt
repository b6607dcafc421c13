mod FirstPollLemmas
pub mod PartsLemmas
mod PreparingLemmas
mod RowsLemmas
mod RunsLemmas
mod SlotsLemmas
mod TakingLemmas
