pub mod Leaf
pub mod Text
pub mod Shown
pub mod Laws
