-- Laws that belong to no one function.
-- Assembling: a state of which every clause holds is sound. Keeping: one process's part. Changing: a state with another part, or other messages. Recovering: a recovery that deletes nothing. Staying: the calls.
pub mod Assembling
pub mod Called
pub mod Changing
pub mod Checkpointing
pub mod Delivering
pub mod Judging
pub mod Keeping
pub mod Leaving
pub mod Lining
pub mod Losing
pub mod Moving
pub mod Reached
pub mod Receiving
pub mod Recovering
pub mod Sending
pub mod Starting
pub mod Staying
