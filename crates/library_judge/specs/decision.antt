pub mod Rows
pub mod Crossings
pub mod Reach
pub mod Far
pub mod Represents
