pub mod Encoding
pub mod Rest
pub mod Refused
pub mod Heads
pub mod Inside
pub mod Streams
pub mod Steps
