pub mod TextLaws
pub mod AskingLaws
