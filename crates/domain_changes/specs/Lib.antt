-- What the contracts of the public functions lead to.
pub mod Room
-- Means of proof, which only private functions cite.
pub mod steps
