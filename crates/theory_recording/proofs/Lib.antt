-- Laws that belong to no one function.
pub mod Recording
pub mod Replay
