-- Laws that belong to no one function.
pub mod Tallies
pub mod Bytes
pub mod Records
pub mod Ready
pub mod Iterations
pub mod Rules
pub mod Whole
