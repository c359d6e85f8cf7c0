-- What the contracts of the public functions lead to.
pub mod Places
pub mod Slots
pub mod Boxes
-- Means of proof, which only private functions and fields cite.
pub mod steps
