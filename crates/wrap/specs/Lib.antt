pub mod Engines
pub mod Calls
