pub mod Kept
pub mod Moves
pub mod Pins
pub mod Steps
pub mod TakingIn
pub mod receipts
