pub mod Ice
pub mod Pacing
pub mod Roles
pub mod Credentials
pub mod CheckUsernames
pub mod Symmetry
