pub mod TalkLemmas
pub mod ConnectionLemmas
pub mod EndLemmas
pub mod RenderLemmas
pub mod CutLemmas
pub mod BeforeLemmas
