pub mod Log
pub mod Taking
