-- What the contracts of the public functions lead to.
pub mod Groups
pub mod Narrow
-- Means of proof, which only private functions cite.
pub mod steps
