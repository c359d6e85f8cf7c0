-- What the contracts of the public functions lead to.
pub mod Nodes
pub mod Narrowing
pub mod Sound
