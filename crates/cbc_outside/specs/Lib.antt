-- The contracts of public functions lead to these. What only private ones cite stands in `steps`.
pub mod Outside
pub mod Memory
pub mod Adapters
pub mod steps
