pub mod Equations
pub mod Depths
pub mod Faults
pub mod Stores
pub mod Solutions
pub mod steps
