use Rattle.std.proofs.Common.{◌≡◌, true, sym, subst, arith, List, ℕ, ◌+◌, length}
use Rattle.pox_outcomes.specs.Language.{StopsAt}
use Rattle.pox_outcomes.specs.Characters.{IsRow, behind, row_at, are_ranges}
use Rattle.pox_outcomes.proofs.ChoiceLemmas.{IsTried, tried_more, tried_all}
use Rattle.pox_outcomes.proofs.CharacterLemmas.{ranges_at, behind_at}
use Rattle.pox_outcomes.proofs.characters.follow_one.Goals as goal

pub follow_row-requires : goal.follow_row-requires
follow_row-requires c =
    let rows = c.args.rows.now in
    let at = c.loop-place.place in
    subst (λ (w : List (ℕ × ℕ)). are_ranges w ≡ true) (sym (behind_at rows at)) (ranges_at (behind rows) at c.requires.ranges)

pub loop-place-preserved : goal.loop-place-preserved
loop-place-preserved c =
    let rows = c.args.rows.now in
    let bytes = c.args.bytes.now in
    let at = c.loop-place.place in
    let stop = subst (λ (w : List (ℕ × ℕ)). StopsAt (IsRow w) bytes c.in-Err.stop.left) (behind_at rows at) c.in-Err.ensures.stops in
    subst (IsTried (λ place. IsRow (row_at (behind rows) place)) bytes (at + 1)) (sym c.min-left.ensures) (tried_more (λ place. IsRow (row_at (behind rows) place)) bytes at c.loop-place.left c.in-Err.stop.left stop c.loop-place.invariant)

pub returns-clause-stops : goal.returns-clause-stops
returns-clause-stops c =
    let rows = c.args.rows.now in
    let bytes = c.args.bytes.now in
    let all : c.loop-place.place ≡ length rows = omega arith in
    tried_all (λ place. IsRow (row_at (behind rows) place)) bytes (length rows) c.loop-place.left c.requires.one (subst (λ (k : ℕ). IsTried (λ place. IsRow (row_at (behind rows) place)) bytes k c.loop-place.left) all c.loop-place.invariant)
