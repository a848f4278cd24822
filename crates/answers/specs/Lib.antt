pub mod Laid
pub mod Answers
pub mod Sums
pub mod Drafts
pub mod Pens
pub mod LineLaws
