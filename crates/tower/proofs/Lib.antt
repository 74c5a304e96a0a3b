pub mod Products
pub mod Halves
pub mod Linear
pub mod Isomorphism
pub mod Inverted
pub mod Looked
pub mod Unique
