-- Laws that belong to no one function.
pub mod Begun
pub mod ByValue
pub mod Counting
