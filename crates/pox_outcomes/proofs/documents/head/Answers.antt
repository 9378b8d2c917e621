use Rattle.std.proofs.Common.{false}
use Rattle.pox_outcomes.specs.Markup.{IsMarkup}
use Rattle.pox_outcomes.specs.Attributes.{IsAttributes}
use Rattle.pox_outcomes.specs.Declaration.{IsOpening}
use Rattle.pox_outcomes.specs.Leaves.{IsLeaf}
use Rattle.pox_outcomes.specs.Document.{message_end}
use Rattle.pox_outcomes.proofs.CarriedLemmas.{carried, halts}
use Rattle.pox_outcomes.proofs.LanguageLemmas.{reads_then}
use Rattle.pox_outcomes.proofs.SequenceLemmas.{behind_here, behind_on}
use Rattle.pox_outcomes.proofs.MarkupLemmas.{free_markup}
use Rattle.pox_outcomes.proofs.LeafLemmas.{leaf_some}
use Rattle.pox_outcomes.proofs.DeclarationLemmas.{free_opening}
use Rattle.pox_outcomes.proofs.AttributeLemmas.{free_attributes}
use Rattle.pox_outcomes.proofs.HeadLemmas.{Headed, Named, headed_some, named_some}
use Rattle.pox_outcomes.proofs.documents.head.Goals as goal

pub returns-in_err-opened-clause-stops : goal.returns-in_err-opened-clause-stops
returns-in_err-opened-clause-stops c =
    let header = c.args.header.now in
    carried _ _ _ c.from_residual.ensures.1 (behind_here (IsOpening c.args.root.now) (Named header) (named_some header) c.in_err-opened.ensures.stops)

pub returns-in_err-named-clause-stops : goal.returns-in_err-named-clause-stops
returns-in_err-named-clause-stops c =
    let root = c.args.root.now in
    let header = c.args.header.now in
    carried _ _ _ c.from_residual-in_err-named.ensures.1
    (behind_on (IsOpening root) (Named header) (free_opening root c.requires.root) c.in_ok-opened.ensures.reads (behind_here (IsAttributes false) (Headed header) (headed_some header) c.in_err-named.ensures.stops))

pub returns-in_err-headed-clause-stops : goal.returns-in_err-headed-clause-stops
returns-in_err-headed-clause-stops c =
    let root = c.args.root.now in
    let header = c.args.header.now in
    carried _ _ _ c.from_residual-in_err-headed.ensures.1
    (behind_on (IsOpening root) (Named header) (free_opening root c.requires.root) c.in_ok-opened.ensures.reads
    (behind_on (IsAttributes false) (Headed header) (free_attributes false) c.in_ok-named.ensures.reads (behind_here (IsMarkup header) (IsLeaf message_end) (leaf_some message_end) c.in_err-headed.ensures.stops)))

pub returns-in_err-message-clause-stops : goal.returns-in_err-message-clause-stops
returns-in_err-message-clause-stops c =
    let root = c.args.root.now in
    let header = c.args.header.now in
    carried _ _ _ c.from_residual-in_err-message.ensures.1
    (halts _ c.in_err-message.ensures.stops (λ n s. behind_on (IsOpening root) (Named header) (free_opening root c.requires.root) c.in_ok-opened.ensures.reads
    (behind_on (IsAttributes false) (Headed header) (free_attributes false) c.in_ok-named.ensures.reads
    (behind_on (IsMarkup header) (IsLeaf message_end) (free_markup header c.requires.header) c.in_ok-headed.ensures.reads s))))

pub returns-clause-reads : goal.returns-clause-reads
returns-clause-reads c = reads_then c.in_ok-opened.ensures.reads (reads_then c.in_ok-named.ensures.reads (reads_then c.in_ok-headed.ensures.reads c.in_ok-message.ensures.reads))
