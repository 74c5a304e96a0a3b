pub mod Mask
pub mod MaskTable
pub mod Kinds
pub mod Order
pub mod Parts
pub mod Sheet
