pub mod SignatureLemmas
pub mod FeedLemmas
