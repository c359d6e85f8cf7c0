pub mod Positions
pub mod Facts
pub mod Known
pub mod Answers
pub mod Faults
