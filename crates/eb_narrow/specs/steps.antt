-- Means of proof: no public clause names what stands here.
pub mod Counting
pub mod Kinds
pub mod Narrowing
