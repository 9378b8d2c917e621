-- A pass between two calls.
use Rattle.std.specs.Prelude.{◌≡◌, ℕ, ◌+◌, ◌≤◌, [], length, Some}
use mathlib.Core.Option.{some}
use Rattle.atomic_table.specs.declared.shared.Seat.{Seat}
use Rattle.turn_lock.specs.declared.kept.Kept.{Ghosts}
use Rattle.turn_lock.specs.declared.view.Phase.TheVariants.{Idle}
use Rattle.turn_lock.specs.declared.view.View.{View}
use Rattle.turn_lock.specs.Counts.{once_below}
use Rattle.turn_lock.specs.Owned.{in_numbers, in_spare, first_number}
use Rattle.turn_lock.specs.Passes.{Token}

-- the seat has no ticket and no slot, what the pass counts is what its view says, no number stands in it twice, and what it has seen meets the law
pub record Rests {J A K O : Type 0} (means : Ghosts K J A O) (seat : Seat K (View J A K)) (number spare answered first : ℕ) : Type 0 where
  pub idle : seat.me.0.phase ≡ Idle
  pub free : seat.me.1 ≡ []
  pub number_is : first_number seat.me.0.own ≡ some number
  pub spare_is : seat.me.0.spare ≡ spare
  pub answered_is : length seat.me.0.own ≡ answered
  pub first_is : seat.me.0.first ≡ first
  pub few : answered + spare ≤ first + 1
  pub most : first ≤ 64
  pub once : (k : ℕ) → in_numbers k seat.me.0.own + in_spare k spare ≤ once_below k (first + 1)
  pub lawful : (b : K) → seat.me.0.base ≡ Some b → means.law (means.origin b) seat.me.0.seen

-- the seat of a pass, with its counts
pub record IsTaken {J A K O : Type 0} (means : Ghosts K J A O) (pass : Token J A K) (seat : Seat K (View J A K)) (spare answered : ℕ) : Type 0 where
  pub table_is : seat.table_id ≡ pass.table
  pub base_is : seat.me.0.base ≡ pass.base
  pub seen_is : seat.me.0.seen ≡ pass.seen
  pub own_is : seat.me.0.own ≡ pass.own
  pub spare_is : spare ≡ pass.spare
  pub rests : Rests means seat pass.number spare answered pass.first
