-- What the contracts of the public functions lead to.
pub mod Arithmetic
pub mod Operations
pub mod Tests
pub mod Truths
