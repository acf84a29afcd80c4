-- Laws that belong to no one function.
pub mod Standing
pub mod Putting
pub mod Sets
pub mod Ending
pub mod Theorem
pub mod Parts
pub mod Marking
pub mod Leading
pub mod Arriving
pub mod Stepping
pub mod Driving
