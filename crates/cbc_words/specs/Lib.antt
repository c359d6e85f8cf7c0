pub mod Actions
pub mod SimpleCommand
pub mod Words
