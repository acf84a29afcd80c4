-- Laws that belong to no one function.
pub mod Selected
pub mod Placed
pub mod Taken
pub mod Stayed
pub mod Closed
pub mod Added
pub mod Zeros
