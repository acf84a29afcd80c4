-- Laws that belong to no one function.
pub mod Fours
pub mod Room
pub mod Whole
