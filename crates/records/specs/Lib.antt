pub mod ColumnTypes
pub mod Faults
pub mod Kinds
pub mod Paths
pub mod Refusals
pub mod Rows
