-- Laws that belong to no one function.
pub mod Tests
pub mod Iters
pub mod Steps
pub mod Holding
pub mod Sizes
pub mod ReadBack
pub mod Filling
pub mod SoundFits
pub mod Tables
pub mod ReadOut
pub mod Causes
