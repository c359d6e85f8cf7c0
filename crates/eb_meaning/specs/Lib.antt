-- What the contracts of the public functions lead to.
pub mod Fitting
pub mod Meaning
pub mod Problems
pub mod Slots
-- The meaning of operators by the values of their parts, from the crate below.
pub use Rattle.eb_operations.specs.Arithmetic
pub use Rattle.eb_operations.specs.Truths
-- Means of proof, which only private functions cite.
pub mod steps
