-- Laws that belong to no one function.
pub mod Actions
pub mod Searching
pub mod Trials
