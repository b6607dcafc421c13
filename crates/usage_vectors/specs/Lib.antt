pub mod TurnMessages
pub mod Streams
pub mod Reasons
pub mod Authentications
pub mod SessionOctets
pub mod TurnSession
