-- Laws that belong to no one function.
pub mod Numbers
pub mod Precedence
pub mod Records
pub mod Risen
pub mod simulation
