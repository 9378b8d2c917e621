-- The numbers that a pass answers for, each with its places in the trail, and the spare numbers.
use Rattle.std.specs.Prelude.{ℕ, zero, suc, ◌+◌, List, [], ◌∷◌, ◌++◌, ◌==◌}
use mathlib.Core.Option.{Option, some, none}
use Rattle.turn_lock.specs.declared.view.OwnPlaces.{OwnPlaces}
use Rattle.turn_lock.specs.Counts.{total, one_if, times}

-- a number with no place
abbrev pub without_places : ℕ → OwnPlaces
without_places k = record { number = k; places = [] }

-- how often p is a place of one of these numbers
abbrev pub in_places : ℕ → List OwnPlaces → ℕ
in_places p own = total (λ o. times p o.places) own

-- how often k is one of these numbers
abbrev pub in_numbers : ℕ → List OwnPlaces → ℕ
in_numbers k own = total (λ o. one_if (o.number == k)) own

-- 1 where k is a number from 1 to n, which are the spare numbers, and else 0
abbrev pub in_spare : ℕ → ℕ → ℕ
in_spare k zero = 0
in_spare k (suc n) = in_spare k n + one_if (suc n == k)

-- the place joins those of the first number, which is the pass's own
abbrev pub put_place : ℕ → List OwnPlaces → List OwnPlaces
put_place p [] = []
put_place p (o ∷ os) = record { number = o.number; places = o.places ++ p ∷ [] } ∷ os

-- the number of the pass itself
abbrev pub first_number : List OwnPlaces → Option ℕ
first_number [] = none
first_number (o ∷ os) = some o.number
