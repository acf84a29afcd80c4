pub mod Lent
pub mod Machine
pub mod Played
pub mod Promised
pub mod Recorded
pub mod Records
