-- Means of proof, which only private functions and fields cite.
pub mod Firsts
pub mod Kept
pub mod Rows
