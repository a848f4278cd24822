pub mod Columns
pub mod Matrices
pub mod Meanings
pub mod Solved
pub mod Solving
