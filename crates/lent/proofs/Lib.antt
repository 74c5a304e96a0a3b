pub mod Whole
pub mod Owned
pub mod Laid
pub mod Begun
pub mod Unique
