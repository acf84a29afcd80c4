-- Laws that belong to no one function.
pub mod Places
pub mod Blocks
pub mod Starts
pub mod Going
pub mod Steps
pub mod Ending
pub mod Printing
pub mod Driving
