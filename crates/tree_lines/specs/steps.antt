-- Means of proof, which only private functions cite.
pub mod Reading
pub mod Seen
pub mod Fitting
