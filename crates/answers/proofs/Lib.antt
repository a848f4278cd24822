pub mod Laying
pub mod Pens
pub mod Digits
pub mod Faults
pub mod Headings
pub mod Drafting
pub mod Fitting
