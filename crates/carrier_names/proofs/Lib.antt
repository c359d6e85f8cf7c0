pub mod Tests
pub mod PlainBytes
pub mod Words
pub mod TokenWords
pub mod Behind
pub mod PlainUnits
pub mod PlainModels
pub mod Carriers
