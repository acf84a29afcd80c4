pub mod Readings
pub mod Written
pub mod saved
