pub mod Products
pub mod ChoiceDomains
pub mod Budget
pub mod FirstVolume
