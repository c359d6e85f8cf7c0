pub mod Induction
pub mod OrderLaws
pub mod TypeInduction
pub mod CountLaws
pub mod TextLaws
pub mod Members
pub mod IntegerLaws
pub mod Ascending
pub mod SetLaws
pub mod ListingLaws
pub mod ValsLaws
pub mod TypingLaws
pub mod Completeness
pub mod MergeLaws
pub mod PairLaws
pub mod RelationLaws
pub mod ProductLaws
pub mod ComposeLaws
pub mod ComprehensionLaws
pub mod FunctionLaws
pub mod ReadingSteps
pub mod ReadingLaws
pub mod RowLaws
pub mod RowBytes
mod SameTypeLaws
mod FamilyLaws
mod KeepLaws
mod CanonicalLaws
mod TypeKeepLaws
mod LoopLaws
