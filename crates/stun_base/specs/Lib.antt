pub mod MessageTypes
pub mod Data
pub mod Transports
pub mod Drawing
