pub mod Calendar
pub mod Readings
