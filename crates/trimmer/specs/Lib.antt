pub mod Status
pub mod Trimmed
