-- What a pass knows, and how a step changes it.
use Rattle.std.specs.Prelude.{ℕ, ◌+◌, ◌-◌, List, [], ◌∷◌, ◌++◌, length, Bool, true, false, ◌==◌, nat_lt, Some, None}
use Rattle.turn_lock.specs.declared.view.Phase.{Phase}
use Rattle.turn_lock.specs.declared.view.Phase.TheVariants.{Idle, Waiting, Called}
use Rattle.turn_lock.specs.declared.view.OwnPlaces.{OwnPlaces}
use Rattle.turn_lock.specs.declared.view.View.{View}
use Rattle.turn_lock.specs.Counts.{one_if}
use Rattle.turn_lock.specs.Trail.{longer, shorter}
use Rattle.turn_lock.specs.Owned.{without_places, put_place}

-- 1 where the pass has a ticket
abbrev pub ticketed : Phase → ℕ
ticketed Idle = 0
ticketed (Waiting t) = 1
ticketed (Called t) = 1

-- 1 where the pass has the ticket t
abbrev pub has_ticket : ℕ → Phase → ℕ
has_ticket t Idle = 0
has_ticket t (Waiting u) = one_if (u == t)
has_ticket t (Called u) = one_if (u == t)

-- 1 where the pass has the value
abbrev pub called : Phase → ℕ
called Idle = 0
called (Waiting t) = 0
called (Called t) = 1

abbrev pub ticket_of : Phase → ℕ
ticket_of Idle = 0
ticket_of (Waiting t) = t
ticket_of (Called t) = t

-- the own places after a turn: where the trail grew, the new place p is among them
abbrev pub own_after : Bool → ℕ → List OwnPlaces → List OwnPlaces
own_after true p own = put_place p own
own_after false p own = own

module _ {J A K : Type 0} where
  -- what the first pass knows
  abbrev pub opened : K → ℕ → View J A K
  opened kept first = record { phase = Idle; seen = []; own = without_places 0 ∷ []; spare = first; base = Some kept; first = first; met_seen = []; met_spare = 0 }

  abbrev pub in_phase : Phase → View J A K → View J A K
  in_phase phase v = record { phase = phase; seen = v.seen; own = v.own; spare = v.spare; base = v.base; first = v.first; met_seen = v.met_seen; met_spare = v.met_spare }

  abbrev pub sees : List (J × A) → View J A K → View J A K
  sees trail v = record { phase = v.phase; seen = trail; own = v.own; spare = v.spare; base = v.base; first = v.first; met_seen = v.met_seen; met_spare = v.met_spare }

  -- its turn is over, and it has seen this trail; where that grew, the last place is the pass's own
  abbrev pub done : List (J × A) → View J A K → View J A K
  done trail v = record { phase = Idle; seen = trail; own = own_after (nat_lt (length v.seen) (length trail)) (length v.seen) v.own; spare = v.spare; base = v.base; first = v.first; met_seen = v.met_seen; met_spare = v.met_spare }

  -- the greatest spare number is given away
  abbrev pub giver : View J A K → View J A K
  giver v = record { phase = v.phase; seen = v.seen; own = v.own; spare = v.spare - 1; base = v.base; first = v.first; met_seen = []; met_spare = 0 }

  -- the pass that it is given to has seen the same, and has no place yet
  abbrev pub newcomer : View J A K → View J A K
  newcomer v = record { phase = Idle; seen = v.seen; own = without_places v.spare ∷ []; spare = 0; base = v.base; first = v.first; met_seen = []; met_spare = 0 }

  -- w is met into v
  abbrev pub both : View J A K → View J A K → View J A K
  both v w = record { phase = v.phase; seen = longer v.seen w.seen; own = v.own ++ w.own; spare = v.spare + w.spare; base = v.base; first = v.first; met_seen = shorter v.seen w.seen; met_spare = w.spare }

  -- what is left of a pass that was met into another
  abbrev pub spent : View J A K
  spent = record { phase = Idle; seen = []; own = []; spare = 0; base = None; first = 0; met_seen = []; met_spare = 0 }

  -- how many numbers the pass has
  abbrev pub size : View J A K → ℕ
  size v = length v.own + v.spare
