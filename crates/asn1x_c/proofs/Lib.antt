pub mod DoneLemmas
pub mod LooseValues
pub mod KeptValues
mod FirstLemmas
