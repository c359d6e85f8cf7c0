pub mod Witnesses
pub mod PushedTexts
pub mod TreeTexts
pub mod Found
pub mod PrintedVerdicts
