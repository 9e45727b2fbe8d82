pub mod MoreRoomLaws
pub mod MoreRoomCases
