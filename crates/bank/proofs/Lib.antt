pub mod Walk
pub mod Admitted
pub mod Unique
