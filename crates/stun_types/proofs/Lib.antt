mod FramesLemmas
mod EndingsLemmas
mod IntegrityScanLemmas
mod ScanningLemmas
mod OrdinaryLemmas
pub mod IteratingLemmas
pub mod ItemsLemmas
mod IntegrityAtLemmas
mod ValidatingLemmas
mod GivenHmacsLemmas
mod LookingUpLemmas
mod FindingLemmas
mod PrintedMessagesLemmas
pub mod StandsLemmas
mod WrittenTypesLemmas
mod KeptHeadersLemmas
mod RunsLemmas
mod RunsAgreeLemmas
mod ListedLemmas
mod ResumingLemmas
mod ResumedLemmas
mod ResumedAddsLemmas
mod ResumedParsesLemmas
mod RepliesLemmas
pub mod ReadingBackLemmas
pub mod ShownLemmas
pub mod ShownTypesLemmas
pub mod TableLemmas
