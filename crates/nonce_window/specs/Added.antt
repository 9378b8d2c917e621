-- A list with one more element somewhere.
use Rattle.std.specs.Prelude.{◌≡◌, List, ◌∷◌, ◌++◌}

-- `after` has the elements of `before` in their order, and between two of them, before or behind all one more
pub record IsAdded {X : Type 0} (before : List X) (more : X) (after : List X) : Type 0 where
  pub front : List X
  pub back : List X
  pub was : before ≡ front ++ back
  pub is : after ≡ front ++ more ∷ back
