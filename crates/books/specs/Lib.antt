pub mod Ends
pub mod Books
pub mod Places
