-- Means of proof, which only private functions cite.
pub mod Lists
