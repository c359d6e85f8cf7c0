-- What the contracts of the public functions lead to.
pub mod Words
pub mod Written
pub mod Lines
-- Means of proof, which only private functions cite.
pub mod steps
