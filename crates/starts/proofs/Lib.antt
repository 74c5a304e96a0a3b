pub mod Sizes
pub mod Unique
