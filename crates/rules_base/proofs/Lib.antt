pub mod ConnectiveLaws
pub mod Known
pub mod UnaryLaws
pub mod UpLaws
pub mod DownLaws
pub mod NormalLaws
pub mod MeaningLaws
