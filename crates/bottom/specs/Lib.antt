pub mod Bottoms
