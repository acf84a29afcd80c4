pub mod Castagnoli
pub mod Format
pub mod Saving
