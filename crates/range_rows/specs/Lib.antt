pub mod Requests
pub mod Shown
pub mod Numbering
