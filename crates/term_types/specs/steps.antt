-- Means of proof: no public clause names what stands here.
pub mod Letters
