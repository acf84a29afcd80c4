pub mod Replaying
pub mod Steps
