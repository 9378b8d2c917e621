pub mod LadderLemmas
mod MadeLemmas
pub mod ReportLemmas
mod NotedLemmas
