pub mod Buffered
pub mod Printed
pub mod Merging
pub mod Promised
pub mod Words
