pub mod Changes
pub mod Console
pub mod Programs
pub mod Recording
