pub mod InputOutput
pub mod RunErrors
