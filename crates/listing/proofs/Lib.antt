-- Laws that belong to no one function.
pub mod Bounds
mod Digits
pub mod Summarised
pub mod Texts
