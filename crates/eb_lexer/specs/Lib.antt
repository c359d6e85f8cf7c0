pub mod Tokens
-- what only private functions cite: how the code goes on, as a means of proof
pub mod steps
