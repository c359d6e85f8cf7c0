-- What the contracts of the public functions lead to.
pub mod Fresh
pub mod Trees
