-- Entries whose nonces aren't forgotten.
use Rattle.std.specs.Prelude.{◌≡◌, ◌<◌, ◌≤◌, ◌^◌, ◌-◌, ◌/◌, ℕ, Bool, true, false, nat_le, List, length, count_by, Option, Some, None, if◌then◌else◌}
use Rattle.std.specs.List.{AllByRecursion}
use Rattle.lti_machine.specs.declared.entry.Entry.{Entry}
use Rattle.lti_machine.specs.Nonces.{live, stamp_of, stands, is_signed, is_of_key, is_live}

-- the first minute that isn't forgotten at a moment
abbrev pub first_at : ℕ → ℕ
first_at now = now / 60 - 90

-- the entry's minute isn't forgotten at the moment
abbrev pub is_fresh : ℕ → Entry → Bool
is_fresh now entry = nat_le (first_at now) (entry.timestamp / 60)

-- the entry, if it has a nonce
abbrev pub signed : Option Entry → Option Entry
signed None = None
signed (Some entry) = if is_signed entry then Some entry else None

-- the entry, if it isn't in an earlier minute
abbrev pub staying : ℕ → Option Entry → Option Entry
staying first None = None
staying first (Some entry) = if nat_le first (entry.timestamp / 60) then Some entry else None

-- no stamp of a key stands twice, each key's number fits 32 bits, each entry has a nonce, and none is forgotten
pub record IsKnown (known : List Entry) (high : ℕ) : Type 0 where
  pub alone : (key : List ℕ) (now : ℕ) → high ≤ now → length (live known key now) ≡ count_by (is_live key now) known
  pub few : (key : List ℕ) → count_by (is_of_key key) known < 2 ^ 32
  pub signed : AllByRecursion (λ entry. is_signed entry ≡ true) known
  pub fresh : AllByRecursion (λ entry. first_at high ≤ entry.timestamp / 60) known

-- one more entry has a nonce that is new and isn't forgotten, and its key has a number for it
pub record IsNext (known : List Entry) (high : ℕ) (entry : Entry) : Type 0 where
  pub signed : is_signed entry ≡ true
  pub fresh : first_at high ≤ entry.timestamp / 60
  pub new : stands known entry.key (stamp_of entry) ≡ false
  pub room : count_by (is_of_key entry.key) known < 2 ^ 32 - 1
