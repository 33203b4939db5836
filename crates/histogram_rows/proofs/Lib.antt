pub mod Adding
pub mod Searching
