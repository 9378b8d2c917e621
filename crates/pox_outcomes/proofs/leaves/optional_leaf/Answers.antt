use Rattle.std.proofs.Common.{ℕ, ◌<◌, sym, subst, arith}
use Rattle.pox_outcomes.specs.Language.{StopsAt}
use Rattle.pox_outcomes.specs.Markup.{IsOneOf, behind}
use Rattle.pox_outcomes.proofs.CarriedLemmas.{carried, halts, found_at}
use Rattle.pox_outcomes.proofs.ChoiceLemmas.{words_plain, length_behind}
use Rattle.pox_outcomes.proofs.OptionalFrontLemmas.{front_stops_word, front_stops_leaf, optional_found}
use Rattle.pox_outcomes.proofs.leaves.optional_leaf.Goals as goal

pub one_of-requires-clause-plain : goal.one_of-requires-clause-plain
one_of-requires-clause-plain c = words_plain (behind c.args.words.now) c.requires.words

pub returns-in_err-place-clause-stops : goal.returns-in_err-place-clause-stops
returns-in_err-place-clause-stops c =
    let words = behind c.args.words.now in
    let s = subst (λ (k : ℕ). StopsAt (IsOneOf words k) c.args.bytes.now c.in_err-place.field-0.0.left) (sym (length_behind c.args.words.now)) c.in_err-place.ensures.stops in
    carried _ _ _ c.from_residual.ensures.1 (front_stops_word words c.args.closing.now _ _ s)

pub returns-in_err-text-clause-stops : goal.returns-in_err-text-clause-stops
returns-in_err-text-clause-stops c =
    let words = behind c.args.words.now in
    let none = c.if-place-gt0.false in
    let start = found_at words _ 0 (omega arith) c.in_ok-place.ensures.reads in
    let some_word = subst (λ (k : ℕ). 0 < k) (sym (length_behind c.args.words.now)) c.requires.one in
    carried _ _ _ c.from_residual-in_err-text.ensures.1 (halts _ c.in_err-text.ensures.stops (λ n s. front_stops_leaf words c.args.closing.now _ _ n c.requires.words some_word start s))

pub returns-clause-reads : goal.returns-clause-reads
returns-clause-reads c =
    let words = behind c.args.words.now in
    let none = c.if-place-gt0.false in
    let start = found_at words _ 0 (omega arith) c.in_ok-place.ensures.reads in
    optional_found words c.args.closing.now _ _ _ _ start c.in_ok-text.ensures.reads
