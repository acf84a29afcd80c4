-- Laws that belong to no one function.
pub mod Leaves
pub mod Scratch
pub mod Ways
