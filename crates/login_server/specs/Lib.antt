pub mod Issued
pub mod LoginRun
