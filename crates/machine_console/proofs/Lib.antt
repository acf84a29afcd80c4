-- Laws that belong to no one function.
pub mod Arriving
pub mod Driving
pub mod Ending
pub mod Leading
pub mod Lines
pub mod Lists
pub mod Marking
pub mod Parts
pub mod Replying
pub mod Starting
pub mod Stepping
pub mod Theorem
