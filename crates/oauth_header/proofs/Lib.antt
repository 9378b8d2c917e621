pub mod PieceLemmas
pub mod ResultLemmas
pub mod HeaderLemmas
pub mod WrittenLemmas
pub mod EscapedLemmas
pub mod CutLemmas
pub mod BackLemmas
