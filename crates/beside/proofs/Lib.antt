pub mod Even
pub mod Alike
pub mod MaskedInversion
pub mod Walk
pub mod Unique
