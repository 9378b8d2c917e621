-- Where in the list a stamp of a key may stand, by their hash.
use Rattle.std.specs.Prelude.{◌≡◌, ◌+◌, ◌*◌, ◌%◌, ◌^◌, ℕ, true, ⊤, List, [], ◌∷◌, Option, is_some}
use Rattle.std.specs.List.{fold}
use Rattle.lti_machine.specs.declared.entry.Entry.{Entry}
use Rattle.lti_machine.specs.Nonces.{Stamp, stamp_of}

-- a hash with one more byte, in 64 bits
abbrev pub mixed : ℕ → ℕ → ℕ
mixed hash byte = ((hash * 1099511628211) % 2 ^ 64 + byte) % 2 ^ 64

-- the hash of a key and a stamp; two of them seldom have the same
abbrev pub hash_of : List ℕ → Stamp → ℕ
hash_of key stamp = fold mixed (fold mixed stamp.timestamp key) stamp.nonce

-- the hash of each entry's key and stamp has a place
unfoldable pub IsIndexed : (ℕ → Option ℕ) → List Entry → Type 0
IsIndexed place_of [] = ⊤
IsIndexed place_of (e ∷ es) = (is_some (place_of (hash_of e.key (stamp_of e))) ≡ true) × IsIndexed place_of es
