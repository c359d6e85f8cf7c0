-- Means of proof: no public clause names what stands here.
pub mod Tables
pub mod Told
pub mod Named
pub mod Distinct
pub mod Passed
