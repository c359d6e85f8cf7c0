mod Copies
mod TermInduction
