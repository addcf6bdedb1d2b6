pub mod Heads
pub mod Reading
pub mod RenewedSet
