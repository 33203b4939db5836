pub mod Carrying
pub mod Feeding
pub mod Nearing
pub mod Starting
pub mod Steps
pub mod Ties
