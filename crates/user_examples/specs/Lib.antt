pub mod MyValue
pub mod Whose
pub mod Room
pub mod Hops
pub mod Kinds
pub mod InSlice
pub mod Noted
