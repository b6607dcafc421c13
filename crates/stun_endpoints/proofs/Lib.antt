pub mod AddressesLemmas
mod ConversionsLemmas
