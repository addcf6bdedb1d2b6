pub mod AlphabetLemmas
pub mod TimeLemmas
