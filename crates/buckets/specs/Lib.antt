pub mod Cases
pub mod Grids
pub mod Picks
pub mod Ranges
pub mod Tilings
