pub mod Requests
pub mod Sides
pub mod Answers
pub mod Crossing
pub mod Hearing
pub mod Going
