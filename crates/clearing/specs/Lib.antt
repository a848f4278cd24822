pub mod Clearing
pub mod Pairs
pub mod Laws
pub mod Plans
pub mod Example
