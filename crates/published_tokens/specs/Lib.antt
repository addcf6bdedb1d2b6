pub mod Reasons
pub mod Heads
pub mod Gap
pub mod Tags
pub mod Fields
pub mod Sections
pub mod Readers
