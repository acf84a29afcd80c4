pub mod Trial
pub mod Spacing
pub mod Cases
