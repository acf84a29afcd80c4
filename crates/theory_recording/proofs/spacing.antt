-- Laws that belong to no one function.
pub mod Accepted
pub mod Agreement
pub mod Cases
pub mod Counts
pub mod Divided
pub mod Oldest
