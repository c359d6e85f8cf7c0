pub mod Equations
pub mod SignLaws
pub mod Steps
pub mod NameLaws
pub mod Soundness
pub mod Edges
pub mod Openings
pub mod Completeness
pub mod Longest
pub mod Stretches
pub mod Deepness
pub mod FormulaLaws
mod FrontLaws
