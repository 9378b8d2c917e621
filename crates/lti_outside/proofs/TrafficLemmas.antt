-- One call after another.
use Rattle.std.proofs.Common.{◌≡◌, ℕ, List, [], ◌++◌, append-nil, refl, sym, ap, ◌∙◌, append_assoc, subst, Option, Some, None}
use Rattle.lti_outside.specs.Faults.{Rose}
use Rattle.lti_outside.specs.Traffic.{Told, Traffic, Fault, no_fault, read_fault, write_fault, Tells, Counts, Moves, HasNoneLeft, IsAtEnd, IsLeft}

Tells-same : (a : Option Told) → Tells a a [] []
Tells-same None = refl
Tells-same (Some a) = (refl, sym (append-nil a.taken), sym (append-nil a.given))

Tells-then : (a b c : Option Told) (r v s w : List ℕ) → Tells a b r v → Tells b c s w → Tells a c (r ++ s) (v ++ w)
Tells-then None b c r v s w first second = rw first at second
Tells-then (Some a) None c r v s w first second = absurd first
Tells-then (Some a) (Some b) None r v s w first second = absurd second
Tells-then (Some a) (Some b) (Some c) r v s w first second = (
  first.0 ∙ ap (λ l. r ++ l) second.0 ∙ sym (append_assoc r s c.left),
  second.1 ∙ ap (λ t. t ++ s) first.1 ∙ append_assoc a.taken r s,
  second.2 ∙ ap (λ g. g ++ w) first.2 ∙ append_assoc a.given v w,
)

Counts-then : (a b c : Traffic) (fault : Fault) → Counts a b no_fault → Counts b c fault → Counts a c fault
Counts-then a b c no_fault first second = (second.0 ∙ first.0, second.1 ∙ first.1)
Counts-then a b c read_fault first second = (subst (λ (n : ℕ). Rose n c.read_faults) first.0 second.0, second.1 ∙ first.1)
Counts-then a b c write_fault first second = (second.0 ∙ first.0, subst (λ (n : ℕ). Rose n c.write_faults) first.1 second.1)

-- a call that moves nothing
pub Moves-same : (a : Traffic) → Moves a a [] [] no_fault
Moves-same a = record { bytes = Tells-same a.told; faults = (refl, refl) }

-- a call without a fault, and then another
pub Moves-then : {a b c : Traffic} {r v s w : List ℕ} {fault : Fault} → Moves a b r v no_fault → Moves b c s w fault → Moves a c (r ++ s) (v ++ w) fault
Moves-then {a = a} {b = b} {c = c} {r = r} {v = v} {s = s} {w = w} {fault = fault} first second = record {
  bytes = Tells-then a.told b.told c.told r v s w first.bytes second.bytes;
  faults = Counts-then a b c fault first.faults second.faults;
}

-- a call that only takes, or only gives, after another
pub Moves-takes : {a b c : Traffic} {r v s : List ℕ} {fault : Fault} → Moves a b r v no_fault → Moves b c s [] fault → Moves a c (r ++ s) v fault
Moves-takes {a = a} {c = c} {r = r} {v = v} {s = s} {fault = fault} first second =
    subst (λ (x : List ℕ). Moves a c (r ++ s) x fault) (append-nil v) (Moves-then first second)

pub Moves-gives : {a b c : Traffic} {r v w : List ℕ} {fault : Fault} → Moves a b r v no_fault → Moves b c [] w fault → Moves a c r (v ++ w) fault
Moves-gives {a = a} {c = c} {r = r} {v = v} {w = w} {fault = fault} first second =
    subst (λ (x : List ℕ). Moves a c x (v ++ w) fault) (append-nil r) (Moves-then first second)

HasNoneLeft-gives : (a b : Option Told) (w : List ℕ) → Tells a b [] w → HasNoneLeft a → HasNoneLeft b
HasNoneLeft-gives None b w moves end = rw moves tt
HasNoneLeft-gives (Some a) None w moves end = absurd moves
HasNoneLeft-gives (Some a) (Some b) w moves end = sym moves.0 ∙ end

-- a write leaves what is left
pub IsAtEnd-gives : {a b : Traffic} {w : List ℕ} {fault : Fault} → Moves a b [] w fault → IsAtEnd a → IsAtEnd b
IsAtEnd-gives {a = a} {b = b} {w = w} moves end = HasNoneLeft-gives a.told b.told w moves.bytes end

none_left : (told : Option Told) (t : Told) (more : List ℕ) → told ≡ Some t → more ≡ t.left → HasNoneLeft told → more ≡ []
none_left None t more is left end = absurd (cc)
none_left (Some a) t more is left end = let same : a ≡ t = cc in left ∙ ap (λ (x : Told). x.left) (sym same) ∙ end

-- at the end nothing is left
pub IsLeft-at_end : (a : Traffic) (more : List ℕ) → IsAtEnd a → IsLeft a more → more ≡ []
IsLeft-at_end a more end left = none_left a.told left.0 more left.1 left.2 end
