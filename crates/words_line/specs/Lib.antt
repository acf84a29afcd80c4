pub mod Line
pub mod Restored
pub mod Sifted
pub mod Through
pub mod earliest
