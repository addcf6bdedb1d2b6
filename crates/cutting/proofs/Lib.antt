pub mod CutLemmas
pub mod EncodingLemmas
pub mod HeadLemmas
pub mod RestLemmas
pub mod StateLemmas
pub mod ReadLemmas
pub mod StreamLemmas
