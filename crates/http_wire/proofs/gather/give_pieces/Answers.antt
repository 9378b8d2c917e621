use Rattle.std.proofs.Common.{ℕ, List, [], ◌++◌, ◌+◌, get_or, drop, sym, ap, ◌∙◌, append_assoc, subst, arith}
use Rattle.std.specs.Borrow.{Bor}
use Rattle.std.proofs.lemmas.Result.{err_from_is_err_and}
use Rattle.lti_outside.specs.Traffic.{GivesFront}
use Rattle.lti_outside.proofs.TrafficLemmas.{Moves-gives}
use Rattle.http_wire.specs.Pieces.{joined}
use Rattle.http_wire.proofs.GivenLemmas.{GivesFront-more, GivesFront-then, joined_at, joined_whole}
use Rattle.http_wire.proofs.gather.give_pieces.Goals as goal

abbrev none : Bor (List ℕ)
none = record { ref_ptr = (0, 0); now = [] }

pub returns-in_err-add-clause-failed : goal.returns-in_err-add-clause-failed
returns-in_err-add-clause-failed g c =
    let p = err_from_is_err_and c.from_residual.result c.from_residual.ensures.1 in
    let before = c.loop-piece.invariant in
    let pieces = c.args.pieces.now in
    let i = c.loop-piece.piece-index in
    let bytes = c.loop-piece.draft ++ (get_or pieces i none).now in
    let rest = joined (drop (i + 1) pieces) in
    rw p.1
    (subst (λ (x : List ℕ). GivesFront (g.O.Outside.traffic c.args.sink.now) (g.O.Outside.traffic c.add.new.sink) x)
    (joined_whole pieces i none before.0 c.loop-piece.draft (omega arith) before.2)
    (GivesFront-more (before.0 ++ bytes) rest (GivesFront-then before.0 bytes before.1 c.in_err-add.ensures.failed)))

pub loop-piece-preserved : goal.loop-piece-preserved
loop-piece-preserved g c =
    let before = c.loop-piece.invariant in
    let added = c.in_ok-add.ensures.added in
    let pieces = c.args.pieces.now in
    let i = c.loop-piece.piece-index in
    let piece = (get_or pieces i none).now in (
      before.0 ++ added.0,
      Moves-gives before.1 added.1,
      joined_at pieces i none (omega arith) ∙ ap (λ t. t ++ piece) before.2 ∙ append_assoc before.0 c.loop-piece.draft piece
          ∙ ap (λ t. before.0 ++ t) added.2 ∙ sym (append_assoc before.0 added.0 c.add.new.draft),
    )
