pub mod Halves
pub mod Additions
pub mod Layouts
pub mod States
pub mod Finds
pub mod Choices
pub mod Lines
pub mod Costs
