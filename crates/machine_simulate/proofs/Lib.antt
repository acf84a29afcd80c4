-- Laws that belong to no one function.
pub mod Numbers
pub mod Standing
pub mod Stepping
pub mod Ending
pub mod Theorem
pub mod Driving
