pub mod Text
pub mod Fault
pub mod Form
pub mod Body
pub mod Sheet
pub mod Render
pub mod Parts
pub mod Laws
