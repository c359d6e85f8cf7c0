-- Means of proof: no public clause names what stands here.
pub mod Sizes
pub mod Merging
pub mod Settling
pub mod Deepening
