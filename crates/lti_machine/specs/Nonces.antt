-- Which nonce may be used. RFC 5849 section 3.3: a nonce is unique across all requests of the same key and
-- timestamp, and a server may refuse old timestamps, so that it needn't keep nonces for ever. How far a
-- timestamp may be off, when a nonce is forgotten and how many a key may have are this project's own rules.
use Rattle.std.specs.Prelude.{ℕ, ◌+◌, ◌/◌, Bool, not, ◌&&◌, ◌==◌, nat_le, List, [], ◌∷◌, length, bytes_eq, if◌then◌else◌}
use Rattle.std.specs.List.{list_any}
use Rattle.std.specs.Cmp.Lexicographic.{slice_cmp}
use Rattle.std.specs.Ordering.{nat_cmp, ordering_then, is_le}
use Rattle.std.specs.declared.cmp.Ordering.{Ordering}
use Rattle.lti_machine.specs.declared.call.Call.{Call}
use Rattle.lti_machine.specs.declared.entry.Entry.{Entry}
use Rattle.lti_machine.specs.declared.verdict.Verdict.{Verdict}
use Rattle.lti_machine.specs.declared.verdict.Verdict.TheVariants.{New, Outside, Used, WindowFull}

-- a timestamp with its nonce: what is unique under a key (RFC 5849 section 3.3)
pub record Stamp : Type 0 where
  pub timestamp : ℕ
  pub nonce : List ℕ

abbrev pub stamp_of : Entry → Stamp
stamp_of entry = record { timestamp = entry.timestamp; nonce = entry.nonce }

abbrev pub stamp_of_call : Call → Stamp
stamp_of_call call = record { timestamp = call.timestamp; nonce = call.nonce }

abbrev pub same_stamp : Stamp → Stamp → Bool
same_stamp a b = a.timestamp == b.timestamp && bytes_eq a.nonce b.nonce

-- the entry has a nonce, and so a stamp that is used up
abbrev pub is_signed : Entry → Bool
is_signed entry = not (length entry.nonce == 0)

-- a signed entry of this key
abbrev pub is_of_key : List ℕ → Entry → Bool
is_of_key key entry = is_signed entry && bytes_eq entry.key key

-- the entry uses up this stamp of this key
abbrev pub uses : List ℕ → Stamp → Entry → Bool
uses key stamp entry = is_of_key key entry && same_stamp stamp (stamp_of entry)

-- some entry uses up this stamp of this key
abbrev pub stands : List Entry → List ℕ → Stamp → Bool
stands entries key stamp = list_any (uses key stamp) entries

-- the timestamp is at most 5400 seconds before or after the moment
abbrev pub is_inside : ℕ → ℕ → Bool
is_inside timestamp now = nat_le now (timestamp + 5400) && nat_le timestamp (now + 5400)

-- a signed entry of this key that isn't forgotten: by whole minutes, its timestamp is at most 90 before the moment
abbrev pub is_live : List ℕ → ℕ → Entry → Bool
is_live key now entry = is_of_key key entry && nat_le (now / 60) (entry.timestamp / 60 + 90)

-- by timestamp, and then by nonce in byte order
abbrev pub stamp_cmp : Stamp → Stamp → Ordering
stamp_cmp a b = ordering_then (nat_cmp a.timestamp b.timestamp) (slice_cmp nat_cmp a.nonce b.nonce)

-- the stamp put in its place in order
abbrev pub insert_stamp : Stamp → List Stamp → List Stamp
insert_stamp s [] = s ∷ []
insert_stamp s (t ∷ ts) = if is_le (stamp_cmp s t) then s ∷ t ∷ ts else t ∷ insert_stamp s ts

-- the same, unless it is there already
abbrev pub add_stamp : Stamp → List Stamp → List Stamp
add_stamp s ts = if list_any (same_stamp s) ts then ts else insert_stamp s ts

-- the stamps of a key that aren't forgotten, each once and in order
unfoldable pub live : List Entry → List ℕ → ℕ → List Stamp
live [] key now = []
live (e ∷ es) key now = if is_live key now e then add_stamp (stamp_of e) (live es key now) else live es key now

-- what the list says of a stamp of a key at a moment, where each key may have so many stamps at once
abbrev pub verdict : List Entry → List ℕ → Stamp → ℕ → ℕ → Verdict
verdict entries key stamp now window =
    if not (is_inside stamp.timestamp now) then Outside
    else if stands entries key stamp then Used
    else if nat_le window (length (live entries key now)) then WindowFull (length (live entries key now))
    else New
