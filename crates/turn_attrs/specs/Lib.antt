pub mod ChannelMessages
pub mod Channels
pub mod Heads
pub mod Protocols
pub mod Reasons
pub mod Turn
