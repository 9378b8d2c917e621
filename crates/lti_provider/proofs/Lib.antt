pub mod TextBytes
pub mod UrlLemmas
pub mod HeaderLemmas
pub mod WritableLemmas
pub mod PassbackLemmas
pub mod AskedLemmas
