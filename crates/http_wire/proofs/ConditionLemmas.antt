-- Conditions in their order.
use Rattle.std.proofs.Common.{◌≡◌, ℕ, ◌+◌, ◌≤◌, Bool, true, false, cond, List, [], ◌∷◌, ◌++◌, refl, arith, Option, Some, None}
use Rattle.std.specs.Prelude.{nat_lt}
use Rattle.std.specs.List.{AllByRecursion}
use Rattle.std.proofs.lemmas.Bool.Decides.{nat_tests}
use Rattle.lti_outside.specs.declared.limits.Limits.{Limits}
use Rattle.http_wire.specs.declared.fault.WireFault.TheVariants.{TooManyHeaders, BadHead}
use Rattle.http_wire.specs.Conditions.{Condition, first_fault}
use Rattle.http_wire.specs.Lines.{line_ends, has_bare_line_feed, line_conditions}

-- where the first condition's fault isn't answered, it doesn't hold
pub by_holds : {F : Type 0} (b : Bool) (f : F) (o : Option F) → cond b (Some f) o ≡ None → (b ≡ false) × (o ≡ None)
by_holds true f o none = absurd (cc)
by_holds false f o none = (refl, none)

-- where no condition holds, each of them doesn't
pub none_holds : {F : Type 0} (cs : List (Condition F)) → first_fault cs ≡ None → AllByRecursion (λ c. c.holds ≡ false) cs
none_holds [] none = tt
none_holds (c ∷ cs) none =
    let first = by_holds c.holds c.fault (first_fault cs) none in
    (first.0, none_holds cs first.1)

later_by : {F : Type 0} (holds : Bool) (fault : F) (front whole back : Option F) → (front ≡ None → whole ≡ back) → cond holds (Some fault) front ≡ None
    → cond holds (Some fault) whole ≡ back
later_by true fault front whole back more none = absurd (cc)
later_by false fault front whole back more none = more none

-- none of the first holds
pub first_later : {F : Type 0} (cs ds : List (Condition F)) → first_fault cs ≡ None → first_fault (cs ++ ds) ≡ first_fault ds
first_later [] ds none = refl
first_later (c ∷ cs) ds none = later_by c.holds c.fault (first_fault cs) (first_fault (cs ++ ds)) (first_fault ds) (first_later cs ds) none

here_by : {F : Type 0} (holds : Bool) (here fault : F) (front whole : Option F) → (front ≡ Some fault → whole ≡ Some fault) → cond holds (Some here) front ≡ Some fault
    → cond holds (Some here) whole ≡ Some fault
here_by true here fault front whole more is = is
here_by false here fault front whole more is = more is

-- one of the first holds
pub first_here : {F : Type 0} (cs ds : List (Condition F)) (fault : F) → first_fault cs ≡ Some fault → first_fault (cs ++ ds) ≡ Some fault
first_here [] ds fault is = absurd (cc)
first_here (c ∷ cs) ds fault is = here_by c.holds c.fault fault (first_fault cs) (first_fault (cs ++ ds)) (first_here cs ds fault) is

few_lines : (x y : ℕ) → nat_lt x y ≡ false → y ≤ x
few_lines x y test = grind (arith, nat_tests)

-- lines without a fault are few, and none ends in a bare LF
pub lines_passed : (limits : Limits) (head : List ℕ) → first_fault (line_conditions limits head) ≡ None
    → (line_ends 0 head ≤ limits.headers + 2) × (has_bare_line_feed 0 head ≡ false)
lines_passed limits head fine =
    let first = by_holds (nat_lt (limits.headers + 2) (line_ends 0 head)) TooManyHeaders _ fine in
    let second = by_holds (has_bare_line_feed 0 head) BadHead _ first.1 in
    (few_lines (limits.headers + 2) (line_ends 0 head) first.0, second.0)
