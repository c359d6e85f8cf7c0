-- What the contracts of the public functions lead to.
pub mod Types
pub mod Values
pub mod Typing
pub mod Scopes
pub mod Counts
pub mod Texts
pub mod Sets
pub mod Relations
pub mod Comprehensions
pub mod Canonical
-- Means of proof, which only private functions cite.
pub mod steps
