-- What the contracts of the public functions lead to.
pub mod Building
pub mod Parts
pub mod Shifting
-- Means of proof, which only private functions cite.
pub mod steps
