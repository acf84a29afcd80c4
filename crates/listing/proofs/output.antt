-- Laws that belong to no one function.
pub mod Endings
pub mod Lines
