pub mod Checksums
pub mod Headers
pub mod Datagrams
pub mod Rates
