pub mod Answers
pub mod reader
