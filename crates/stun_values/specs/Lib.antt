pub mod Addresses
pub mod Algorithms
pub mod FingerprintValues
pub mod ErrorValues
pub mod TextValues
pub mod Typed
pub mod TypedValues
pub mod TypeLists
