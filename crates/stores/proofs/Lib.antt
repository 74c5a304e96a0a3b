pub mod Store
pub mod Unique
