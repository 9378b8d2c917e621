-- The spaces and tabs at the ends of a text.
use Rattle.std.specs.Prelude.{ℕ, Bool, ◌||◌, ◌==◌, List, [], ◌∷◌, reverse, if◌then◌else◌}

-- a space or a tab
abbrev pub is_blank : ℕ → Bool
is_blank b = b == 32 || b == 9

-- without the spaces and tabs in front
abbrev pub trim_front : List ℕ → List ℕ
trim_front [] = []
trim_front (b ∷ text) = if is_blank b then trim_front text else b ∷ text

-- without the spaces and tabs at the end
abbrev pub trim_end : List ℕ → List ℕ
trim_end text = reverse (trim_front (reverse text))
