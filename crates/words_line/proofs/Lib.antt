-- Laws that belong to no one function.
pub mod LineRule
pub mod Lost
pub mod Reaching
pub mod Sifting
pub mod Iterations
