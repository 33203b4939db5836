pub mod Calls
pub mod Levels
pub mod Overruns
pub mod Writing
