mod AddressErrorsLemmas
mod ProtocolsLemmas
pub mod FramedLemmas
pub mod HeadsLemmas
