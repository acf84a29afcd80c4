-- Laws that belong to no one function.
pub mod Lists
pub mod Calling
pub mod Naming
