pub mod Index
pub mod Rows
pub mod Listing
pub mod Keeping
pub mod Ordering
pub mod Placing
