pub mod Example
pub mod Offers
pub mod Premises
pub mod Learning
pub mod Forging
