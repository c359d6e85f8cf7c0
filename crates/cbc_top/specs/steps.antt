pub mod Stops
pub mod Reads
pub mod Due
