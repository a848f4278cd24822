pub mod Meanings
pub mod Rows
pub mod Jobs
pub mod Runs
