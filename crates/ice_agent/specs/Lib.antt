pub mod Agents
pub mod Writing
pub mod Receiving
pub mod Sending
pub mod Runs
pub mod Restarts
pub mod Lite
