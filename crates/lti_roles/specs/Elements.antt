-- The elements of a list of roles (LTI 1.1.1, section 3, parameter `roles`). That spaces around an element and empty
-- elements are passed over is this project's own rule.
use Rattle.std.specs.Prelude.{ℕ, Bool, not, ◌==◌, List, [], ◌∷◌, length, map, filter, reverse, if◌then◌else◌}
use Rattle.std.specs.List.{slice_split}

-- without the spaces in front
abbrev pub trim_front : List ℕ → List ℕ
trim_front [] = []
trim_front (b ∷ text) = if b == 32 then trim_front text else b ∷ text

-- without the spaces at the end
abbrev pub trim_end : List ℕ → List ℕ
trim_end text = reverse (trim_front (reverse text))

abbrev pub trimmed : List ℕ → List ℕ
trimmed piece = trim_end (trim_front piece)

abbrev pub is_nonempty : List ℕ → Bool
is_nonempty element = not (length element == 0)

-- the pieces without spaces at both ends, but for the empty ones
abbrev pub elements_in : List (List ℕ) → List (List ℕ)
elements_in pieces = filter is_nonempty (map trimmed pieces)

-- the elements of the text, cut at each comma
abbrev pub elements_of : List ℕ → List (List ℕ)
elements_of text = elements_in (slice_split (λ b. b == 44) text)
