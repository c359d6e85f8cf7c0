-- What the contracts of the public functions lead to.
pub mod Ends
pub mod Sums
pub mod Products
pub mod Powers
pub mod Arithmetic
-- Means of proof, which only private functions cite.
pub mod steps
