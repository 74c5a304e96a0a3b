pub mod Summed
pub mod Neighbours
pub mod Balance
pub mod BackTable
pub mod Ways
pub mod Wrapping
pub mod History
