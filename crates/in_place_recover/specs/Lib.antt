pub mod Recovering
pub mod Restored
