pub mod Counting
pub mod Images
pub mod Clashes
pub mod Sizes
