pub mod Settings
pub mod Models
