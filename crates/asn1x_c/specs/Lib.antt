pub mod Kept
pub mod Held
pub mod Numbers
pub mod Done
pub mod One
