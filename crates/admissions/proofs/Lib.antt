-- Laws that belong to no one function.
pub mod Outside
pub mod Cases
pub mod Room
