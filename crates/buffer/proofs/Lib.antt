pub mod Buffer
pub mod Pieces
pub mod Turns
pub mod Unique
