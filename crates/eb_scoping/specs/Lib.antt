pub mod FreeNames
pub mod Models
pub mod Sets
pub mod Groups
pub mod Walks
pub mod steps
