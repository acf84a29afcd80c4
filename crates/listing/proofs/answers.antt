-- Laws that belong to no one function.
pub mod Back
pub mod Fit
