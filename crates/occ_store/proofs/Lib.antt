pub mod FirstStores
pub mod BoxLaws
pub mod Parts
pub mod SingleValues
