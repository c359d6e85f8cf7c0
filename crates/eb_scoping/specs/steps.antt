pub mod Heads
pub mod Marks
pub mod Walking
pub mod FreeByParts
