pub mod Fitness
pub mod Counts
pub mod Host
pub mod Inversion
pub mod Report
pub mod Stored
