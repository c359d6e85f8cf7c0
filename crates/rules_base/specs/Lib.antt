-- What the contracts of the public functions lead to.
pub mod Connectives
pub mod Definedness
pub mod Pairs
pub mod Comparisons
pub mod Integers
pub mod Outcomes
pub mod Rules
pub mod Operators
