pub mod LoginsWritableLemmas
pub mod EndedLemmas
pub mod ProofLemmas
pub mod ShortTermLemmas
mod ListsLemmas
pub mod LongTermLemmas
pub mod TakenLemmas
pub mod ChallengeLemmas
mod RetriedLemmas
mod ExampleLemmas
mod WritableLemmas
mod ReceivedLemmas
mod AddressLemmas
mod LearningLemmas
mod ForgingLemmas
