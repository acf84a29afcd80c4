pub mod Receipt
pub mod Sized
