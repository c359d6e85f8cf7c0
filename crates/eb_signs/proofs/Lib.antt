pub mod TableLaws
pub mod SignTexts
pub mod Tables
