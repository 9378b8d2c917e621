-- Consumer keys and their secrets (RFC 5849, section 1.1: client credentials).
use Rattle.std.specs.Prelude.{ℕ, ◌<◌, ◌≤◌, Bool, ◌==◌, nat_lt, List, [], ◌∷◌, ◌++◌, length, find, bytes_eq, if◌then◌else◌, Option, None, Some, All}
use Rattle.std.specs.Option.{option_map}
use Rattle.std.specs.List.{list_any}
use Rattle.lti_outside.specs.declared.pairs.Pair.{Pair}
use Rattle.oauth_request.specs.declared.keys.KeysFault.{KeysFault}
use Rattle.oauth_request.specs.declared.keys.KeysFault.TheVariants.{Empty, TooLong, Repeated}

-- the secret of a key
abbrev pub secret_in : List Pair → List ℕ → Option (List ℕ)
secret_in keys key = option_map (λ pair. pair.value) (find (λ pair. bytes_eq pair.name key) keys)

-- a pair has this key
abbrev pub has_key : List ℕ → List Pair → Bool
has_key key pairs = list_any (λ pair. bytes_eq pair.name key) pairs

-- what is wrong with a key behind these pairs: it is empty, has over 255 bytes, or stands among them
abbrev pub key_fault : List Pair → Pair → Option KeysFault
key_fault before pair =
    if length pair.name == 0 then Some (Empty (length before))
    else if nat_lt 255 (length pair.name) then Some (TooLong (length before))
    else if has_key pair.name before then Some (Repeated (length before))
    else None

-- a fault, or else another
abbrev pub or_later : Option KeysFault → Option KeysFault → Option KeysFault
or_later None later = later
or_later (Some fault) later = Some fault

-- the first fault of the keys of a list that stands behind these pairs
abbrev pub first_key_fault : List Pair → List Pair → Option KeysFault
first_key_fault before [] = None
first_key_fault before (pair ∷ pairs) = or_later (key_fault before pair) (first_key_fault (before ++ pair ∷ []) pairs)

-- each key has 1 to 255 bytes
abbrev pub AreShort : List Pair → Type 0
AreShort pairs = All (λ pair. (0 < length pair.name) × (length pair.name ≤ 255)) pairs
