pub mod BodyInduction
pub mod SameLaws
pub mod RoomLaws
pub mod DomainRoom
pub mod PartRoom
