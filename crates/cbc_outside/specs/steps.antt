pub mod OpenFile
