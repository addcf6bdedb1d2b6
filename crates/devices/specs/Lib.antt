pub mod Failures
pub mod Parts
