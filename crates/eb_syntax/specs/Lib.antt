pub mod Asts
