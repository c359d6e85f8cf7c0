pub mod Unsupported
pub mod Usages
pub mod Names
pub mod steps
