-- A table with one more stamp at a place.
use Rattle.std.specs.Prelude.{◌≡◌, ◌⊎◌, ℕ, List, [], ◌∷◌, ◌++◌}
use Rattle.lti_machine.specs.Nonces.{Stamp}
use Rattle.nonce_window.specs.Added.{IsAdded}
use Rattle.nonce_window.specs.Nonces.{Table}

-- The stamps at the place were `was` and are `is`; where the place comes in, they were none.
pub record IsPlaced (before : Table) (place : ℕ × ℕ) (stamp : Stamp) (after : Table) : Type 0 where
  pub front : Table
  pub back : Table
  pub was : List Stamp
  pub is : List Stamp
  pub before_is : (before ≡ front ++ (place, was) ∷ back) ⊎ ((before ≡ front ++ back) × (was ≡ []))
  pub after_is : after ≡ front ++ (place, is) ∷ back
  pub added : IsAdded was stamp is
