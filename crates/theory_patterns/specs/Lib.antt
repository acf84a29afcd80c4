pub mod Patterns
pub mod Paths
pub mod Judging
pub mod Verdicts
pub mod Cases
pub mod Histories
