pub mod Grouping
pub mod Waiting
pub mod Groups
pub mod Counting
pub mod Waits
pub mod Parts
