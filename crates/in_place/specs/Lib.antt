pub mod Called
pub mod Left
pub mod Sending
pub mod Starting
pub mod Staying
pub mod Storing
