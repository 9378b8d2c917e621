-- A list of few entries that serves in place of a long one.
use Rattle.std.specs.Prelude.{ℕ, ◌==◌, List, [], ◌∷◌, ◌++◌, map, if◌then◌else◌}
use Rattle.std.specs.List.{flat_map}
use Rattle.lti_machine.specs.declared.entry.Entry.{Entry}
use Rattle.lti_machine.specs.declared.entry.Effect.{Effect}
use Rattle.lti_machine.specs.declared.entry.Effect.TheVariants as effect
use Rattle.lti_machine.specs.declared.standing.Standing.{Standing}
use Rattle.lti_machine.specs.declared.standing.Standing.TheVariants.{Unknown, Empty, Scored}
use Rattle.lti_machine.specs.Rules.{high}
use Rattle.lti_machine.specs.Rows.{RowValue, rows_of}
use Rattle.lti_machine.specs.Placements.{PlacedValue, placed_of}
use Rattle.lti_machine.specs.Used.{Used, used}

-- the effect under its key, at moment 0 and without a nonce
abbrev pub plain_entry : List ℕ → Effect → Entry
plain_entry key changed = record { moment = 0; key = key; timestamp = 0; nonce = []; effect = changed }

abbrev pub grade_entries : List ℕ → List ℕ → Standing → List Entry
grade_entries key id Unknown = []
grade_entries key id Empty = []
grade_entries key id (Scored score) = plain_entry key (effect.Grade id score) ∷ []

-- that the id is issued, and its grade where it has one
abbrev pub row_entries : RowValue → List Entry
row_entries row = plain_entry row.key (effect.Issued row.id) ∷ grade_entries row.key row.id row.standing

abbrev pub placed_entry : PlacedValue → Entry
placed_entry placed = plain_entry placed.key (effect.Launch placed.link placed.user placed.placement.sourced_id placed.placement.service)

abbrev pub used_entry : Used → Entry
used_entry used = record { moment = 0; key = used.key; timestamp = used.stamp.timestamp; nonce = used.stamp.nonce; effect = effect.Nothing }

-- the greatest moment, where it isn't 0
abbrev pub high_entries : ℕ → List Entry
high_entries high = if high == 0 then [] else record { moment = high; key = []; timestamp = 0; nonce = []; effect = effect.Nothing } ∷ []

-- The digest of the list at a moment: the issued ids with their grades, the placements, the nonces that aren't
-- forgotten at that moment, and the greatest moment of the list.
abbrev pub digest : List Entry → ℕ → List Entry
digest entries now =
    flat_map row_entries (rows_of entries)
    ++ map placed_entry (placed_of entries)
    ++ map used_entry (used entries now)
    ++ high_entries (high entries)
