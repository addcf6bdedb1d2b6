pub mod Unread
pub mod Next
pub mod Progress
pub mod Sound
pub mod Laws
