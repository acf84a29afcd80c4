pub mod Lines
pub mod Printed
pub mod Reports
pub mod Summarised
pub mod answers
