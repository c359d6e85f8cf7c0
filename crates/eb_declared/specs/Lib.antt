-- The contracts of public functions lead to these. What only private functions cite stands in `steps`.
pub mod Parts
pub mod Seen
pub mod Declarations
pub mod steps
