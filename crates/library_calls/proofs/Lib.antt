-- Laws that belong to no one function.
pub mod Changing
pub mod Leaving
pub mod Keeping
pub mod Stepping
pub mod Beginning
pub mod Recovering
