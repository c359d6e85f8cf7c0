pub mod Numbering
pub mod Typing
pub mod Models
pub mod Equating
pub mod steps
