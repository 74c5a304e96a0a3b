pub mod Splice
pub mod Places
pub mod Checked
pub mod Outcome
pub mod Unique
