pub mod States
pub mod Lookups
pub mod Peers
pub mod Naming
pub mod Waking
pub mod Reports
pub mod Challenges
