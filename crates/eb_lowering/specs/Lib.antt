pub mod Anchors
pub mod Lowering
pub mod steps
