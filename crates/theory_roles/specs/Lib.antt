pub mod Console
pub mod Denials
pub mod Isolation
pub mod Learned
pub mod Real
pub mod Runs
pub mod Shown
pub mod Table
