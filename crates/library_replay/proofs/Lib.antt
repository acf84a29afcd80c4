-- Laws that belong to no one function.
pub mod Deleted
pub mod Onward
pub mod Summarised
pub mod Iterations
