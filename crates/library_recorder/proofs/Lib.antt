-- Laws that belong to no one function.
pub mod Begun
pub mod Recorded
