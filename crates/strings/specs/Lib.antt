pub mod Alphabet
pub mod Time
