pub mod Fault
pub mod Status
