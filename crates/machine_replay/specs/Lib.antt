pub mod Replaying
pub mod Standing
pub mod Printing
pub mod Ready
