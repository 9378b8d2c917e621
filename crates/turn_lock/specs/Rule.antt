-- The rule: what holds between any two steps.
-- Word 0 is the next ticket and word 1 the ticket that is served, both modulo 2^64. The slot keeps the value. A view is what one pass knows.
--
-- 1. The next ticket is the ticket that is served and as many as are out. The tickets of passes differ, and lie between the two (`words_are`, `counted`, `tickets`).
-- 2. Who is called has the ticket that is served, so one pass at most is called (`own_turn`).
-- 3. What a pass has seen begins the trail (`seen_is`). So of any two passes one has seen all that the other has.
-- 4. Where no pass is called, the value is in its slot: it has counted the turns that are over, and its trail is the trail (`slot`, `Ready`).
-- 5. Where one is called, its seat has the value, and the slot has none. The pass has seen the trail as it was when its turn came (`slot`, `knows`).
-- 6. The raise of the ticket that is served brings the value back too. So between no two steps is a turn over and the value out, or the value back and the turn not over.
-- 7. A pass's own places lie inside what it has seen. Each place of the trail is an own place of one number in one pass, so some pass has seen the whole trail.
--    Each number from 0 to the first spare stands in one pass, as one that it answers for or as a spare one (`inside`, `places`, `numbers`, `sized`).
-- 8. All passes that aren't spent began with one value and one first spare, and the value keeps the origin and the limit that it had then (`of`, `Ready`).
use Rattle.std.specs.Prelude.{◌≡◌, ℕ, ◌+◌, ◌%◌, ◌^◌, ◌≤◌, ◌⊎◌, List, [], ◌∷◌, length, Some}
use mathlib.Core.Option.{Option, some, none}
use lib.ListN.{get_elem?}
use Rattle.atomic_table.specs.Table.{State}
use Rattle.turn_lock.specs.declared.kept.Kept.{Ghosts}
use Rattle.turn_lock.specs.declared.view.View.{View}
use Rattle.turn_lock.specs.Counts.{total, once_below}
use Rattle.turn_lock.specs.Trail.{StartsWith}
use Rattle.turn_lock.specs.Owned.{in_places, in_numbers, in_spare}
use Rattle.turn_lock.specs.Views.{ticketed, has_ticket, called, size}

-- One view, where so many turns are over and the trail is this
pub record Fits {J A K : Type 0} (base : K) (first served : ℕ) (trail : List (J × A)) (v : View J A K) : Type 0 where
  pub own_turn : called v.phase ≤ has_ticket served v.phase
  pub seen_is : StartsWith trail v.seen
  pub knows : called v.phase ≡ 1 → v.seen ≡ trail
  pub inside : (p : ℕ) → length v.seen ≤ p → in_places p v.own ≡ 0
  -- who has a ticket answers for a number, so no more tickets are out than there are numbers
  pub answers : ticketed v.phase ≤ length v.own
  pub of : (b : K) → v.base ≡ Some b → (b ≡ base) × (v.first ≡ first)
  -- of a pass and the one that was met into it last: what the one had seen that had seen less begins the trail too, and one of the two had no spare number
  pub met_is : StartsWith trail v.met_seen
  pub met_none : (v.met_spare ≡ 0) ⊎ (v.met_spare ≡ v.spare)

module _ {J A K O : Type 0} (means : Ghosts K J A O) where
  -- The value between two turns
  pub record Ready (base : K) (served : ℕ) (trail : List (J × A)) (y : K) : Type 0 where
    pub trail_is : means.trail y ≡ trail
    pub turns_is : means.turned y ≡ served % 2 ^ 64
    pub origin_is : means.origin y ≡ means.origin base
    pub limit_is : means.limit y ≡ means.limit base

  -- Where no pass is called the value is in its slot. Where one is, its seat has the value, and the slot has none
  abbrev pub Slot : K → ℕ → List (J × A) → List (Option K) → ℕ → Type 0
  Slot base served trail homes calls =
      ((calls ≡ 0) × ((y : K) × (homes ≡ some y ∷ []) × Ready base served trail y)) ⊎ ((calls ≡ 1) × (homes ≡ none ∷ []))

  -- The rule. The value was `base` and the spare numbers were 1 to `first` when the lock was made; since then so many turns are over, so many tickets are out, and the trail is this
  pub record Turns (base : K) (first : ℕ) (s : State K (View J A K)) : Type 0 where
    pub served : ℕ
    pub out : ℕ
    pub trail : List (J × A)
    pub few : first ≤ 64
    pub words_are : s.words ≡ (served + out) % 2 ^ 64 ∷ served % 2 ^ 64 ∷ []
    pub counted : total (λ v. ticketed v.phase) s.views ≡ out
    pub tickets : (t : ℕ) → total (λ v. has_ticket t v.phase) s.views + once_below t served ≡ once_below t (served + out)
    pub each : (id : ℕ) (v : View J A K) → get_elem? s.views id ≡ some v → Fits base first served trail v
    pub slot : Slot base served trail s.homes (total (λ v. called v.phase) s.views)
    pub places : (p : ℕ) → total (λ v. in_places p v.own) s.views ≡ once_below p (length trail)
    pub numbers : (k : ℕ) → total (λ v. in_numbers k v.own + in_spare k v.spare) s.views ≡ once_below k (first + 1)
    pub sized : total size s.views ≡ first + 1
