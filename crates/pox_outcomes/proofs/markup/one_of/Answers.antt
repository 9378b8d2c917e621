use Rattle.std.proofs.Common.{◌≡◌, true, sym, subst, arith, List, ℕ, ◌+◌, length}
use Rattle.pox_outcomes.specs.Language.{StopsAt}
use Rattle.pox_outcomes.specs.Markup.{IsMarkup, behind, word_at, is_plain}
use Rattle.pox_outcomes.proofs.ChoiceLemmas.{IsTried, tried_more, tried_all, plain_at, behind_at}
use Rattle.pox_outcomes.proofs.markup.one_of.Goals as goal

pub follow-requires : goal.follow-requires
follow-requires c =
    let words = c.args.words.now in
    let at = c.loop-place.place in
    subst (λ (w : List ℕ). is_plain w ≡ true) (sym (behind_at words at)) (plain_at (behind words) at c.requires.plain)

pub loop-place-preserved : goal.loop-place-preserved
loop-place-preserved c =
    let words = c.args.words.now in
    let bytes = c.args.bytes.now in
    let at = c.loop-place.place in
    let stop = subst (λ (w : List ℕ). StopsAt (IsMarkup w) bytes c.in-Err.stop.left) (behind_at words at) c.in-Err.ensures.stops in
    subst (IsTried (λ place. IsMarkup (word_at (behind words) place)) bytes (at + 1)) (sym c.min-left.ensures) (tried_more (λ place. IsMarkup (word_at (behind words) place)) bytes at c.loop-place.left c.in-Err.stop.left stop c.loop-place.invariant)

pub returns-clause-stops : goal.returns-clause-stops
returns-clause-stops c =
    let words = c.args.words.now in
    let bytes = c.args.bytes.now in
    let all : c.loop-place.place ≡ length words = omega arith in
    tried_all (λ place. IsMarkup (word_at (behind words) place)) bytes (length words) c.loop-place.left c.requires.one (subst (λ (k : ℕ). IsTried (λ place. IsMarkup (word_at (behind words) place)) bytes k c.loop-place.left) all c.loop-place.invariant)
