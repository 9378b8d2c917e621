-- What each step tells the one who makes it, and what a seat holds between them.
use Rattle.std.specs.Prelude.{◌≡◌, ℕ, ◌+◌, ◌%◌, ◌^◌, ◌≤◌, ◌⊎◌, [], ◌∷◌, ◌++◌, length, ◌==◌, Some, MatchBool}
use Rattle.atomic_table.specs.Table.{Me, Step}
use Rattle.turn_lock.specs.declared.kept.Kept.{Ghosts}
use Rattle.turn_lock.specs.declared.view.Phase.TheVariants.{Waiting, Called}
use Rattle.turn_lock.specs.declared.view.View.{View}
use Rattle.turn_lock.specs.Counts.{once_below}
use Rattle.turn_lock.specs.Trail.{StartsWith, Adds}
use Rattle.turn_lock.specs.Owned.{in_numbers, in_spare}
use Rattle.turn_lock.specs.Views.{ticket_of, in_phase, sees, done, size}

-- the seat holds the slot alone, with such a value
abbrev pub Holds : {K V : Type 0} → Me K V → (K → Type 0) → Type 0
Holds {K} m P = (y : K) × (m.1 ≡ (0, y) ∷ []) × P y

-- the pass has drawn this ticket, modulo 2^64
abbrev pub Waits : {J A K : Type 0} → Me K (View J A K) → ℕ → Type 0
Waits m n = (t : ℕ) × (t % 2 ^ 64 ≡ n) × (m.0.phase ≡ Waiting t) × (m.1 ≡ [])

-- The raise of the next ticket: the pass has drawn the one found
abbrev pub Draws : {J A K : Type 0} → Step K → Me K (View J A K) → ℕ → Me K (View J A K) → Type 0
Draws st m n r = (t : ℕ) × (t % 2 ^ 64 ≡ n) × (r ≡ (in_phase (Waiting t) m.0, m.1))

-- The load that compares two passes after one was met into the other: what one had seen begins what the other had, one had no spare number, and no number stands twice
abbrev pub Compares : {J A K : Type 0} → Step K → Me K (View J A K) → ℕ → Me K (View J A K) → Type 0
Compares {J} {A} {K} st m n r =
    (r ≡ m) × StartsWith m.0.seen m.0.met_seen × ((m.0.met_spare ≡ 0) ⊎ (m.0.met_spare ≡ m.0.spare))
    × ((b : K) → m.0.base ≡ Some b → (size m.0 ≤ m.0.first + 1) × ((k : ℕ) → in_numbers k m.0.own + in_spare k m.0.spare ≤ once_below k (m.0.first + 1)))

module _ {J A K O : Type 0} (means : Ghosts K J A O) where
  -- the turn has come: the seat has the value, and has seen its trail, which begins with what was seen before
  abbrev pub Comes : Me K (View J A K) → Me K (View J A K) → Type 0
  Comes m r =
      (y : K) × (r ≡ (in_phase (Called (ticket_of m.0.phase)) (sees (means.trail y) m.0), (0, y) ∷ m.1)) × StartsWith (means.trail y) m.0.seen
      × (means.turned y ≡ ticket_of m.0.phase % 2 ^ 64) × ((b : K) → m.0.base ≡ Some b → (means.origin y ≡ means.origin b) × (means.limit y ≡ means.limit b))

  -- The load of the ticket that is served: where it finds the pass's own, the turn has come, and else nothing has changed
  abbrev pub Looks : Step K → Me K (View J A K) → ℕ → Me K (View J A K) → Type 0
  Looks st m n r = MatchBool (n == ticket_of m.0.phase % 2 ^ 64) (Comes m r) (r ≡ m)

  -- The raise of the ticket that is served: the value is back in its slot, and the turn is over
  abbrev pub Ends : Step K → Me K (View J A K) → ℕ → Me K (View J A K) → Type 0
  Ends st m n r = Holds m (λ y. r ≡ (done (means.trail y) m.0, []))

  -- z is what one answer to a job makes of the value y
  pub record Extends (y : K) (job : J) (answer : A) (z : K) : Type 0 where
    pub turns_is : means.turned z ≡ (means.turned y + 1) % 2 ^ 64
    pub origin_is : means.origin z ≡ means.origin y
    pub limit_is : means.limit z ≡ means.limit y
    pub trail_is : Adds (means.refuses answer) (means.limit y) job answer (means.trail y) (means.trail z)
    pub law_is : means.law (means.origin z) (means.trail z)

  -- z, which the seat holds, has given one answer in this turn
  pub record IsAnswered (base : K) (v : View J A K) (z : K) : Type 0 where
    pub is_called : v.phase ≡ Called (ticket_of v.phase)
    pub turns_is : means.turned z ≡ (ticket_of v.phase + 1) % 2 ^ 64
    pub origin_is : means.origin z ≡ means.origin base
    pub limit_is : means.limit z ≡ means.limit base
    pub grows : (means.trail z ≡ v.seen) ⊎ ((x : J × A) × (means.trail z ≡ v.seen ++ x ∷ []))
    pub answers : 1 ≤ length v.own
