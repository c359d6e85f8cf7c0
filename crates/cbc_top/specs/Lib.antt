-- The contracts of public functions lead to these. What only private functions cite stands in `steps`.
pub mod ModelFiles
pub mod Opening
pub mod Run
pub mod steps
