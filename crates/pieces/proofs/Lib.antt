pub mod Finding
pub mod Fits
