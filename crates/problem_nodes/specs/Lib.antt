-- What the contracts of the public functions lead to.
pub mod Places
pub mod Aboves
-- Means of proof, which only private functions cite.
pub mod steps
