-- What the contracts of the public functions and of callers lead to.
pub mod Binding
pub mod Occurrences
pub mod Stores
pub mod Targets
pub mod Outcomes
pub mod Typed
