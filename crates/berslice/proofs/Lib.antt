-- Lemmas on values that are read at once.
pub mod HeadLemmas
pub mod LeafLemmas
pub mod ReadingLemmas
pub mod RenewedSetLemmas
