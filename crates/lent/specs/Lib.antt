pub mod Sixteen
pub mod Started
