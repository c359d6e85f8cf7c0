pub mod AboveLaws
pub mod PartLaws
pub mod PlaceLaws
pub mod Stretches
pub mod LengthLaws
pub mod PushLaws
pub mod OnceLaws
pub mod FirstLaws
