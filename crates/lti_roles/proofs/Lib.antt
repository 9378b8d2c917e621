mod PrefixLemmas
mod TrimLemmas
mod ElementLemmas
mod PrintedLemmas
mod BackLemmas
mod NameLemmas
