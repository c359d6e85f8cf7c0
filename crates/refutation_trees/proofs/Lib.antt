pub mod ClosingLines
pub mod Soundness
