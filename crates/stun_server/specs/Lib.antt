pub mod Reply
pub mod Sizes
pub mod InSlice
