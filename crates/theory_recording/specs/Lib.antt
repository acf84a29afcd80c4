pub mod Recording
pub mod Replay
pub mod spacing
