-- Laws that belong to no one function.
pub mod Billing
pub mod Collecting
pub mod PinRows
pub mod Sets
pub mod Settling
pub mod Stepping
pub mod TakingIn
pub mod receipts
