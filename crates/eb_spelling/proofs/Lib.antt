pub mod SpellingLaws
pub mod SpellingSteps
pub mod Respelling
pub mod FormulaLaws
