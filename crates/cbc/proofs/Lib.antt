pub mod Links
pub mod Unique
