pub mod Merges
pub mod Joins
pub mod Reading
pub mod Rows
pub mod SameTypes
pub mod Families
