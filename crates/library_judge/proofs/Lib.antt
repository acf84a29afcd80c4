pub mod Steps
pub mod Trails
pub mod Begin
pub mod Keeping
pub mod Parts
pub mod Records
pub mod Together
