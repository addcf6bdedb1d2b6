pub mod TextLemmas
pub mod AppendLemmas
pub mod PlainLemmas
pub mod ShownLemmas
mod TextInstances
