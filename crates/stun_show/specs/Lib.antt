pub mod Report
pub mod ShowRun
pub mod ShowProgram
