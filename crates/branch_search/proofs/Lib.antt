pub mod Goings
pub mod Defined
pub mod Endings
