pub mod Channels
pub mod Framing
pub mod Streams
pub mod Runs
pub mod Gathering
pub mod Fields
