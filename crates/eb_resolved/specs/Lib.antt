pub mod Formulas
pub mod Patterns
pub mod Resolving
pub mod Unknown
