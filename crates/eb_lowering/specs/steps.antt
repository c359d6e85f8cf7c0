-- Means of proof: no public clause names what stands here.
pub mod Anchoring
pub mod Binding
pub mod Grouping
