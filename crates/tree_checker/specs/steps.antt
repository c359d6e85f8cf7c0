pub mod Machine
pub mod Checking
