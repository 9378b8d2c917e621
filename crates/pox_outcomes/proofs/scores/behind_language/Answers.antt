use Rattle.std.proofs.Common.{refl}
use Rattle.pox_outcomes.specs.Language.{Any}
use Rattle.pox_outcomes.specs.Markup.{IsMarkup}
use Rattle.pox_outcomes.specs.Leaves.{IsLeaf}
use Rattle.pox_outcomes.specs.Scores.{IsTextString}
use Rattle.pox_outcomes.proofs.CarriedLemmas.{carried, halts}
use Rattle.pox_outcomes.proofs.LanguageLemmas.{reads_then}
use Rattle.pox_outcomes.proofs.SequenceLemmas.{any_reads, free_once, behind_here, behind_on}
use Rattle.pox_outcomes.proofs.MarkupLemmas.{free_markup}
use Rattle.pox_outcomes.proofs.LeafLemmas.{leaf_once}
use Rattle.pox_outcomes.proofs.ScoreLemmas.{language_end, string_word, Word, string_some, word_some}
use Rattle.pox_outcomes.proofs.scores.behind_language.Goals as goal

pub returns-in_err-rest-clause-stops : goal.returns-in_err-rest-clause-stops
returns-in_err-rest-clause-stops c =
    let closing = c.args.closing.now in
    carried _ _ _ c.from_residual.ensures.1 (halts _ c.in_err-rest.ensures.stops (λ n s. behind_here (Any (IsLeaf language_end)) (Word closing) (word_some closing) s))

pub returns-in_err-last-clause-stops : goal.returns-in_err-last-clause-stops
returns-in_err-last-clause-stops c =
    let closing = c.args.closing.now in
    let found = any_reads (IsLeaf language_end) _ c.in_ok-rest.ensures.reads in
    carried _ _ _ c.from_residual-in_err-last.ensures.1
    (behind_on (Any (IsLeaf language_end)) (Word closing) (free_once (leaf_once language_end refl)) found (behind_here (IsMarkup string_word) (IsTextString closing) (string_some closing) c.in_err-last.ensures.stops))

pub returns-in_err-score-clause-stops : goal.returns-in_err-score-clause-stops
returns-in_err-score-clause-stops c =
    let closing = c.args.closing.now in
    let found = any_reads (IsLeaf language_end) _ c.in_ok-rest.ensures.reads in
    carried _ _ _ c.from_residual-in_err-score.ensures.1
    (halts _ c.in_err-score.ensures.stops (λ n s. behind_on (Any (IsLeaf language_end)) (Word closing) (free_once (leaf_once language_end refl)) found
    (behind_on (IsMarkup string_word) (IsTextString closing) (free_markup string_word refl) c.in_ok-last.ensures.reads s)))

pub returns-clause-reads : goal.returns-clause-reads
returns-clause-reads c = reads_then (any_reads (IsLeaf language_end) _ c.in_ok-rest.ensures.reads) (reads_then c.in_ok-last.ensures.reads c.in_ok-score.ensures.reads)
