pub mod Columns
pub mod Cuts
pub mod Orders
pub mod Wholes
