mod Places
mod Loops
mod Heads
mod Soundness
mod Ends
mod Completeness
mod UnitsRead
mod TextLaws
