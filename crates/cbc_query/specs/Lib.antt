pub mod Parts
pub mod Settings
pub mod Problems
pub mod Limits
pub mod Notes
pub mod Faults
pub mod steps
