-- Locks and passes, as contracts see them.
use Rattle.std.specs.Prelude.{◌≡◌, ℕ, ◌+◌, ◌≤◌, List, length, Bool, Option, Some, MatchBool}
use Rattle.atomic_table.specs.Seated.{TableId}
use Rattle.turn_lock.specs.declared.view.OwnPlaces.{OwnPlaces}
use Rattle.turn_lock.specs.Counts.{once_below}
use Rattle.turn_lock.specs.Trail.{StartsWith, Adds}
use Rattle.turn_lock.specs.Owned.{in_numbers, in_spare, put_place}

-- A lock: which one it is, the value that it was made with, and the greatest spare number that it was made with
pub record Lock (K : Type 0) : Type 0 where
  pub table : TableId
  pub base : K
  pub first : ℕ

-- A pass: of which lock, its number, its spare numbers (from 1 to that one), the beginning of the trail that it has seen,
-- and the numbers that it answers for, its own first, each with its places in the trail
pub record Token (J A K : Type 0) : Type 0 where
  pub table : TableId
  pub base : Option K
  pub first : ℕ
  pub number : ℕ
  pub spare : ℕ
  pub seen : List (J × A)
  pub own : List OwnPlaces

module _ {J A K : Type 0} where
  -- the pass is one of the lock's own
  abbrev pub IsPassOf : Lock K → Token J A K → Type 0
  IsPassOf lock pass = (pass.table ≡ lock.table) × (pass.base ≡ Some lock.base) × (pass.first ≡ lock.first)

  -- how often the number k stands in the pass, as one that it answers for or as a spare one
  abbrev pub stands : ℕ → Token J A K → ℕ
  stands k pass = in_numbers k pass.own + in_spare k pass.spare

  -- how many numbers stand in the pass
  abbrev pub numbers : Token J A K → ℕ
  numbers pass = length pass.own + pass.spare

  -- each number that the lock has stands in the pass, once: none is left that another pass could have
  abbrev pub IsWhole : Token J A K → Type 0
  IsWhole pass = (k : ℕ) → stands k pass ≡ once_below k (pass.first + 1)

  -- no number stands in both, or twice in one
  abbrev pub AreApart : Token J A K → Token J A K → Type 0
  AreApart pass other = (k : ℕ) → stands k pass + stands k other ≤ once_below k (pass.first + 1)

-- A turn. When it came the trail was `front`, which begins with all that the pass had seen. The answer was added to it, unless it refuses, and the pass has seen
-- the trail that this makes. A new member's place joins the places of the pass's own number
pub record Answers {J A : Type 0} (refused : Bool) (limit : ℕ) (job : J) (answer : A) (seen : List (J × A)) (own : List OwnPlaces) (seen' : List (J × A)) (own' : List OwnPlaces) : Type 0 where
  pub front : List (J × A)
  pub goes_on : StartsWith front seen
  pub adds : Adds refused limit job answer front seen'
  pub places : MatchBool refused (own' ≡ own) (own' ≡ put_place (length front) own)
