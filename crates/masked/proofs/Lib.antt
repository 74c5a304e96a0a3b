pub mod Checked
pub mod Batch
pub mod Unique
pub mod Sizes
