mod FramingLemmas
mod GatheringLemmas
mod StreamsLemmas
mod CutsLemmas
mod RunsLemmas
pub mod ComingLemmas
mod ResumingLemmas
pub mod StoredLemmas
mod ReadingLemmas
