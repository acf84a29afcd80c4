pub mod Fits
pub mod Filled
pub mod Readable
