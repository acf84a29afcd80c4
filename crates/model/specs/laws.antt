pub mod Refusals
pub mod Sound
