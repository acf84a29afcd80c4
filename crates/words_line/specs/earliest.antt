pub mod Copying
pub mod Pairs
