pub mod Passes
pub mod Leasts
pub mod Verdict
pub mod Meets
