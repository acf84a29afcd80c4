-- Laws that belong to no one function.
pub mod Asking
pub mod Listing
pub mod Members
pub mod Receiving
pub mod Showing
