-- Laws that belong to no one function.
pub mod Lengths
pub mod Standing
pub mod Stepping
pub mod Ending
pub mod Theorem
pub mod Settled
pub mod Driving
