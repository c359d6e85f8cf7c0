-- The contracts of public functions lead to these. What only private functions cite stands in `steps`.
pub mod Asking
pub mod Texts
pub mod Refusals
pub mod steps
