pub mod Networks
pub mod Peers
pub mod Ranges
pub mod Registry
pub mod Texts
pub mod Tunnels
pub mod Policies
