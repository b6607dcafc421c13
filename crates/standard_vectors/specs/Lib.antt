pub mod Messages
pub mod Parameters
pub mod Right
pub mod Digests
pub mod WrittenMessages
pub mod Tables
