pub mod Kept
pub mod Readings
pub mod decision
