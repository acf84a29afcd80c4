pub mod Arguments
pub mod Text
pub mod Simulating
pub mod Words
