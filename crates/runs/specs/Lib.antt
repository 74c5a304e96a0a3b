pub mod Run
pub mod Back
pub mod Lent
pub mod Steps
