pub mod Consoling
pub mod Lent
pub mod Made
pub mod Replied
pub mod Text
pub mod script
