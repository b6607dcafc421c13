pub mod MemoryLemmas
pub mod WritingLemmas
pub mod JudgingLemmas
pub mod AuthenticLemmas
pub mod AddressesLemmas
pub mod SessionsLemmas
pub mod UnknownLemmas
