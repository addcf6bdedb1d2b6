pub mod Keyword
pub mod Numbering
pub mod Root
pub mod Standing
pub mod Written
