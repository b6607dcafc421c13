pub mod Endpoints
pub mod Conversions
