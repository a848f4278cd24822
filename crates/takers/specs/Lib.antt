pub mod Meanings
pub mod GateLists
pub mod Cancellers
pub mod Folds
