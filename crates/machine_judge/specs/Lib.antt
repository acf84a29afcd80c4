pub mod Text
pub mod Judging
pub mod Words
