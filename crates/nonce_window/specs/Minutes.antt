-- The nonces of one key in one minute.
use Rattle.std.specs.Prelude.{ℕ, zero, suc, List, [], ◌∷◌, ◌++◌, map, filter, nat_eq}
use Rattle.std.specs.Int.{bit_at}
use Rattle.std.specs.List.{flat_map}
use Rattle.std.specs.String.{string_bytes}
use Rattle.std.specs.declared.alloc.Global.{Global}
use Rattle.std.specs.declared.string.String.{String}
use Rattle.lti_machine.specs.Nonces.{Stamp}

-- the numbers below n, in order
unfoldable pub below : ℕ → List ℕ
below zero = []
below (suc n) = below n ++ n ∷ []

-- the seconds of a minute whose bits are set
abbrev pub seconds_of : ℕ → List ℕ
seconds_of bits = filter (λ s. nat_eq (bit_at bits s) 1) (below 60)

-- the nonce at each of its seconds
abbrev pub stamps_at : String Global × List ℕ → List Stamp
stamps_at e = map (λ s. record { timestamp = s; nonce = string_bytes e.0 }) e.1

-- the stamps of a minute, their timestamps counted from its start
abbrev pub stamps_of : List (String Global × List ℕ) → List Stamp
stamps_of entries = flat_map stamps_at entries
