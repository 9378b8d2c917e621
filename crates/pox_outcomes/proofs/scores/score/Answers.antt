use Rattle.std.proofs.Common.{ℕ, ◌<◌, inl, inr, ◌∙◌, subst}
use Rattle.pox_outcomes.specs.Language.{StopsAt}
use Rattle.pox_outcomes.specs.Markup.{IsOneOf, behind}
use Rattle.pox_outcomes.specs.Scores.{IsBehindLanguage, IsTextString}
use Rattle.pox_outcomes.proofs.CarriedLemmas.{carried, halts_on, reads_on, found_at, second_found}
use Rattle.pox_outcomes.proofs.LanguageLemmas.{reads_as, reads_then}
use Rattle.pox_outcomes.proofs.ChoiceLemmas.{words_plain, length_behind, two_here, two_first, two_second}
use Rattle.pox_outcomes.proofs.ScoreLemmas.{language_some, string_some}
use Rattle.pox_outcomes.proofs.scores.score.Goals as goal

pub returns-in_err-place-clause-stops : goal.returns-in_err-place-clause-stops
returns-in_err-place-clause-stops c =
    let words = behind c.args.words.now in
    let closing = c.args.closing.now in
    let s = subst (λ (k : ℕ). StopsAt (IsOneOf words k) c.args.bytes.now c.in_err-place.field-0.0.left) c.requires.two c.in_err-place.ensures.stops in
    carried _ _ _ c.from_residual.ensures.1
    (two_here words c.requires.words (length_behind c.args.words.now ∙ c.requires.two) (IsBehindLanguage closing) (IsTextString closing) (language_some closing) (string_some closing) s)

pub one_of-requires-clause-plain : goal.one_of-requires-clause-plain
one_of-requires-clause-plain c = words_plain (behind c.args.words.now) c.requires.words

pub returns-then-place-eq0-clause-reads : goal.returns-then-place-eq0-clause-reads
returns-then-place-eq0-clause-reads c =
    let start = found_at (behind c.args.words.now) _ 0 c.if-place-eq0.true c.in_ok-place.ensures.reads in
    reads_on _ c.behind_language.ensures.reads (λ score last h. reads_as (λ x i. inl i) (reads_then start h))

pub returns-then-place-eq0-clause-stops : goal.returns-then-place-eq0-clause-stops
returns-then-place-eq0-clause-stops c =
    let words = behind c.args.words.now in
    let closing = c.args.closing.now in
    let start = found_at words _ 0 c.if-place-eq0.true c.in_ok-place.ensures.reads in
    halts_on _ c.behind_language.ensures.stops (λ n s. two_first words c.requires.words (length_behind c.args.words.now ∙ c.requires.two) (IsBehindLanguage closing) (IsTextString closing) start s)

pub returns-clause-reads : goal.returns-clause-reads
returns-clause-reads c =
    let start = second_found (behind c.args.words.now) _ (subst (λ (k : ℕ). c.in_ok-place.place < k) c.requires.two c.in_ok-place.ensures.place) c.if-place-eq0.false c.in_ok-place.ensures.reads in
    reads_on _ c.text_string.ensures.reads (λ score last h. reads_as (λ x i. inr i) (reads_then start h))

pub returns-clause-stops : goal.returns-clause-stops
returns-clause-stops c =
    let words = behind c.args.words.now in
    let closing = c.args.closing.now in
    let start = second_found words _ (subst (λ (k : ℕ). c.in_ok-place.place < k) c.requires.two c.in_ok-place.ensures.place) c.if-place-eq0.false c.in_ok-place.ensures.reads in
    halts_on _ c.text_string.ensures.stops (λ n s. two_second words c.requires.words (length_behind c.args.words.now ∙ c.requires.two) (IsBehindLanguage closing) (IsTextString closing) start s)
