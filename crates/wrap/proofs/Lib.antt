pub mod Checked
pub mod Unique
