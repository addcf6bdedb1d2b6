pub mod Stack
pub mod Nest
pub mod Items
pub mod Strings
pub mod Cursor
pub mod Cut
pub mod Feeding
pub mod Weight
