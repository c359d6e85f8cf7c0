pub mod Typed
pub mod UpSound
pub mod DownSound
