mod ListsLemmas
mod ReceivingLemmas
mod KeptLemmas
mod RunsLemmas
pub mod HistoriesLemmas
mod JudgedLemmas
mod RespondingLemmas
mod WarrantsLemmas
mod StrangersLemmas
mod LastingLemmas
mod WakingLemmas
mod ServingLemmas
mod HearingLemmas
mod AttemptsLemmas
mod PollingLemmas
mod RoundsLemmas
