pub mod Leaves
pub mod Nodes
pub mod Terms
pub mod Typed
