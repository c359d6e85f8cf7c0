-- What the contracts of the public functions lead to.
pub mod Trees
pub mod Verdicts
pub mod Texts
-- Means of proof, which only private functions cite.
pub mod steps
