pub mod Boolean
pub mod Integer
pub mod Null
pub mod Oid
pub mod Bits
pub mod Laws
