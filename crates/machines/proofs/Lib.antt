-- Laws of machines, whatever their states.
pub mod Runs
pub mod Places
pub mod Hearing
pub mod Answers
pub mod Driving
pub mod Reporting
pub mod Leading
pub mod Calling
