-- Laws that belong to no one function.
pub mod Billing
pub mod Blocks
pub mod Facts
pub mod Filled
pub mod Parts
pub mod Receipts
pub mod Settling
pub mod Still
