pub mod Types
pub mod Views
pub mod Sessions
pub mod Checks
pub mod Judging
pub mod Authentic
