pub mod RanLemmas
