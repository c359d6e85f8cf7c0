-- What the contracts of the public functions lead to.
pub mod Types
-- Means of proof: no public clause names what stands here.
pub mod steps
