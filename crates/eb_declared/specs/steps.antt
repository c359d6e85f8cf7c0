pub mod Written
pub mod Keys
