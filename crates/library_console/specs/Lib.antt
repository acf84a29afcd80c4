pub mod Asked
pub mod Listed
pub mod Receivers
