pub mod Adding
pub mod Requesting
