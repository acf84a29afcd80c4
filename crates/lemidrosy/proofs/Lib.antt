-- Laws that belong to no one function.
pub mod Changing
pub mod Consoles
pub mod Merging
pub mod Recording
pub mod Starting
pub mod Unsound
pub mod Verdicts
