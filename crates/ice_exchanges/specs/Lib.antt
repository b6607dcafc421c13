pub mod Peers
pub mod Datagrams
pub mod Consents
pub mod Silences
pub mod Meetings
pub mod Roles
pub mod Works
