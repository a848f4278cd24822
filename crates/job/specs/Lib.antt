pub mod Paper
pub mod Calls
pub mod Steps
pub mod Endings
pub mod Wholes
pub mod WholeLaws
pub mod CallWholes
