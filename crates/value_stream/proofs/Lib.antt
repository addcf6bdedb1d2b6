pub mod NextLemmas
pub mod LawLemmas
