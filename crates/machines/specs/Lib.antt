pub mod Forms
pub mod Machines
pub mod Packed
pub mod Called
pub mod programs
