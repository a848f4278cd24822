pub mod Ones
pub mod Mapping
pub mod Least
pub mod Rows
pub mod Laws
pub mod Example
pub mod Took
pub mod Works
