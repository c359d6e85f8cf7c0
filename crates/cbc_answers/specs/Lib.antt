-- The contracts of public functions lead to these.
pub mod Answers
pub mod steps
