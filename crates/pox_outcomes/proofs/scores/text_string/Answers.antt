use Rattle.std.proofs.Common.{refl}
use Rattle.pox_outcomes.specs.Markup.{IsMarkup}
use Rattle.pox_outcomes.specs.Leaves.{IsLeaf}
use Rattle.pox_outcomes.proofs.CarriedLemmas.{carried, halts}
use Rattle.pox_outcomes.proofs.LanguageLemmas.{reads_then}
use Rattle.pox_outcomes.proofs.SequenceLemmas.{before_here, before_on}
use Rattle.pox_outcomes.proofs.MarkupLemmas.{markup_one}
use Rattle.pox_outcomes.proofs.LeafLemmas.{leaf_once}
use Rattle.pox_outcomes.proofs.ScoreLemmas.{string_end}
use Rattle.pox_outcomes.proofs.scores.text_string.Goals as goal

pub returns-in_err-score-clause-stops : goal.returns-in_err-score-clause-stops
returns-in_err-score-clause-stops c =
    let closing = c.args.closing.now in
    carried _ _ _ c.from_residual.ensures.1 (halts _ c.in_err-score.ensures.stops (λ n s. before_here (IsLeaf string_end) (IsMarkup closing) (markup_one closing) s))

pub returns-in_err-behind-clause-stops : goal.returns-in_err-behind-clause-stops
returns-in_err-behind-clause-stops c =
    carried _ _ _ c.from_residual-in_err-behind.ensures.1 (before_on (IsLeaf string_end) (IsMarkup c.args.closing.now) (leaf_once string_end refl) _ c.in_ok-score.ensures.reads c.in_err-behind.ensures.stops)

pub returns-clause-reads : goal.returns-clause-reads
returns-clause-reads c = reads_then c.in_ok-score.ensures.reads c.in_ok-behind.ensures.reads
