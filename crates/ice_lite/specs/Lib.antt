pub mod Agents
pub mod Steps
pub mod Runs
pub mod Past
