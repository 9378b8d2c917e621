-- What the tables of the nonces tell.
use Rattle.std.specs.Prelude.{◌≡◌, ◌<◌, ℕ, ◌+◌, ◌*◌, ◌^◌, ◌&&◌, nat_eq, nat_le, List, map, length, slice_index_or, if◌then◌else◌}
use Rattle.std.specs.List.{AllByRecursion, flat_map, sum_by}
use Rattle.std.specs.List.Sorted.{IsStrictlySortedBy}
use Rattle.std.specs.Map.{keys_of}
use Rattle.std.specs.Ordering.{nat_cmp, ordering_then}
use Rattle.std.specs.declared.cmp.Ordering.{Ordering}
use Rattle.lti_machine.specs.declared.entry.Entry.{Entry}
use Rattle.lti_machine.specs.declared.entry.Effect.TheVariants.{Nothing}
use Rattle.lti_machine.specs.Nonces.{Stamp}
use Rattle.nonce_window.specs.Keys.{key_at}

-- the stamps of each key in each minute, by the minute and the number of the key
abbrev pub Table : Type 0
Table = List ((ℕ × ℕ) × List Stamp)

abbrev pub place_cmp : ℕ × ℕ → ℕ × ℕ → Ordering
place_cmp p q = ordering_then (nat_cmp p.0 q.0) (nat_cmp p.1 q.1)

-- an entry that uses up a stamp of a key and changes nothing
abbrev pub plain : List ℕ → Stamp → Entry
plain key stamp = record { moment = 0; key = key; timestamp = stamp.timestamp; nonce = stamp.nonce; effect = Nothing }

-- the same, where the timestamp is counted from a minute's start
abbrev pub plain_in : List ℕ → ℕ → Stamp → Entry
plain_in key minute stamp = plain key (record { timestamp = minute * 60 + stamp.timestamp; nonce = stamp.nonce })

abbrev pub entries_at : List (List ℕ) → (ℕ × ℕ) × List Stamp → List Entry
entries_at keys e = map (plain_in (key_at keys e.0.1) e.0.0) e.1

-- the entries that the table stands for
abbrev pub entries_of : List (List ℕ) → Table → List Entry
entries_of keys table = flat_map (entries_at keys) table

-- how many stamps the key of a number has from a minute on
abbrev pub count_at : ℕ → ℕ → (ℕ × ℕ) × List Stamp → ℕ
count_at number first e = if nat_eq e.0.1 number && nat_le first e.0.0 then length e.1 else 0

abbrev pub total : ℕ → ℕ → Table → ℕ
total number first table = sum_by (count_at number first) table

-- it has a nonce, and its timestamp is that of a second of the minute, which fits 64 bits
abbrev pub IsWithin : ℕ → Stamp → Type 0
IsWithin minute stamp = (stamp.timestamp < 60) × (0 < length stamp.nonce) × (minute * 60 + stamp.timestamp < 2 ^ 64)

abbrev pub AreWithin : (ℕ × ℕ) × List Stamp → Type 0
AreWithin e = AllByRecursion (IsWithin e.0.0) e.1

-- each number has a count, which is how many stamps its key has
pub record AreCounted (counts : List ℕ) (table : Table) : Type 0 where
  pub numbered : AllByRecursion (λ e. e.0.1 < length counts) table
  pub totals : (number : ℕ) → slice_index_or counts number 0 ≡ total number 0 table

-- the places ascend, and each stamp is one within its minute
pub record IsTable (table : Table) : Type 0 where
  pub ordered : IsStrictlySortedBy place_cmp (keys_of table)
  pub within : AllByRecursion AreWithin table
