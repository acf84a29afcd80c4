-- Laws that belong to no one function.
pub mod Carried
pub mod Copying
pub mod Readings
pub mod Three
pub mod Losses
