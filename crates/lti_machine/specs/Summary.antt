-- What of a list of accepted entries decides every later reply.
use Rattle.std.specs.Prelude.{ℕ, List}
use Rattle.lti_machine.specs.declared.entry.Entry.{Entry}
use Rattle.lti_machine.specs.Rules.{high}
use Rattle.lti_machine.specs.Rows.{RowValue, rows_of}
use Rattle.lti_machine.specs.Placements.{PlacedValue, placed_of}
use Rattle.lti_machine.specs.Used.{Used, used}

pub record Summary : Type 0 where
  -- the greatest moment
  pub high : ℕ
  -- the nonces that aren't forgotten then, by key, timestamp and nonce
  pub used : List Used
  -- the issued ids with their grades, in order of first issue
  pub rows : List RowValue
  -- where the grades go, in order of first launch
  pub placed : List PlacedValue

abbrev pub summary : List Entry → Summary
summary entries = record { high = high entries; used = used entries (high entries); rows = rows_of entries; placed = placed_of entries }
