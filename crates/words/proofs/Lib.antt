pub mod Bits
pub mod Flips
pub mod Parities
pub mod Tops
pub mod Units
