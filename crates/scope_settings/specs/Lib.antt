-- What the contracts of the public functions lead to.
pub mod Scopes
pub mod Limits
pub mod Faults
-- Means of proof, which only private functions cite.
pub mod steps
