pub mod Halves
pub mod Merge
pub mod Merges
pub mod Seen
