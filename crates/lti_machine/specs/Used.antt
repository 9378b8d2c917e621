-- Which nonces are used up and not forgotten, of all keys together.
use Rattle.std.specs.Prelude.{ℕ, ◌+◌, ◌/◌, Bool, ◌&&◌, nat_le, List, [], ◌∷◌, map, filter}
use Rattle.std.specs.BTreeSet.{insert_key}
use Rattle.std.specs.Cmp.Lexicographic.{slice_cmp}
use Rattle.std.specs.Ordering.{nat_cmp, ordering_then}
use Rattle.std.specs.declared.cmp.Ordering.{Ordering}
use Rattle.lti_machine.specs.declared.entry.Entry.{Entry}
use Rattle.lti_machine.specs.Nonces.{Stamp, stamp_of, stamp_cmp, is_signed}

-- a stamp under its key
pub record Used : Type 0 where
  pub key : List ℕ
  pub stamp : Stamp

abbrev pub used_of : Entry → Used
used_of entry = record { key = entry.key; stamp = stamp_of entry }

-- by key, timestamp and nonce, texts in byte order
abbrev pub used_cmp : Used → Used → Ordering
used_cmp a b = ordering_then (slice_cmp nat_cmp a.key b.key) (stamp_cmp a.stamp b.stamp)

-- a signed entry that isn't forgotten: by whole minutes, its timestamp is at most 90 before the moment
abbrev pub lives : ℕ → Entry → Bool
lives now entry = is_signed entry && nat_le (now / 60) (entry.timestamp / 60 + 90)

-- each once, in order
unfoldable pub in_order : {K : Type 0} → (K → K → Ordering) → List K → List K
in_order cmp [] = []
in_order cmp (k ∷ ks) = insert_key cmp (in_order cmp ks) k

-- the stamps of all keys that aren't forgotten at a moment, each once and in order
abbrev pub used : List Entry → ℕ → List Used
used entries now = in_order used_cmp (map used_of (filter (lives now) entries))
