use Rattle.std.proofs.Common.{◌≡◌, ◌+◌, ◌++◌, [], ◌∷◌, false, length, take, drop, append_assoc, append-nil, sym, ap, ◌∙◌, subst, arith}
use Rattle.std.proofs.lemmas.List.{take_rest}
use Rattle.oauth_header.specs.Items.{items_in, items_from}
use Rattle.oauth_header.specs.Pieces.{piece_len}
use Rattle.oauth_header.specs.Header.{AreItems, pairs_in, items_of, header_pairs}
use Rattle.oauth_header.specs.Faults.{IsFaultOf}
use Rattle.oauth_header.proofs.PieceLemmas.{items_from_cut, items_from_past}
use Rattle.oauth_header.proofs.HeaderLemmas.{AreItems-append, pairs_in-append, IsFaultOf-within}
use Rattle.oauth_header.proofs.ResultLemmas.{IfErr_carried}
use Rattle.oauth_header.proofs.reading.read.Goals as goal

pub returns-in_err-read_piece-clause-bad : goal.returns-in_err-read_piece-clause-bad
returns-in_err-read_piece-clause-bad c =
    let so_far = c.loop-at.invariant in
    let value = c.as_bytes-value.result.now in
    let piece = c.first_piece-piece.result.now in
    let here = items_in (record { at = c.loop-at.at; bytes = piece } ∷ []) in
    let next = c.loop-at.at + (length piece + 1) in
    let back = items_from next (drop next value) in
    let first = c.first_piece-piece.ensures.piece ∙ ap (λ text. take (piece_len false text) text) (take_rest value c.loop-at.at) in
    let cut = items_from_cut value c.loop-at.at piece first in
    let fault = c.in_err-read_piece.field-0.0 in
    let all : items_of c.args.value.now ≡ so_far.0 ++ (here ++ back) = ap items_of (sym c.as_bytes-value.ensures.value) ∙ so_far.1 ∙ ap (λ items. so_far.0 ++ items) cut in
    let bad = IsFaultOf-within fault so_far.0 here back (items_of c.args.value.now) all so_far.2 c.in_err-read_piece.ensures.bad in
    IfErr_carried (IsFaultOf (items_of c.args.value.now)) c.from_residual.result fault c.from_residual.ensures.1 bad

pub loop-at-preserved : goal.loop-at-preserved
loop-at-preserved c =
    let so_far = c.loop-at.invariant in
    let value = c.as_bytes-value.result.now in
    let piece = c.first_piece-piece.result.now in
    let here = items_in (record { at = c.loop-at.at; bytes = piece } ∷ []) in
    let next = c.loop-at.at + (length piece + 1) in
    let first = c.first_piece-piece.ensures.piece ∙ ap (λ text. take (piece_len false text) text) (take_rest value c.loop-at.at) in
    let cut = items_from_cut value c.loop-at.at piece first in (
      so_far.0 ++ here,
      so_far.1 ∙ ap (λ items. so_far.0 ++ items) cut ∙ sym (append_assoc so_far.0 here (items_from next (drop next value))),
      AreItems-append so_far.0 here so_far.2 c.in_ok-read_piece.ensures.items,
      c.in_ok-read_piece.ensures.pairs ∙ ap (λ pairs. pairs ++ pairs_in here) so_far.3 ∙ sym (pairs_in-append so_far.0 here),
    )

pub returns-clause-pairs : goal.returns-clause-pairs
returns-clause-pairs c =
    let so_far = c.loop-at.invariant in
    let past = items_from_past c.as_bytes-value.result.now c.loop-at.at (omega arith) in
    let all : items_of c.as_bytes-value.result.now ≡ so_far.0 = so_far.1 ∙ ap (λ items. so_far.0 ++ items) past ∙ append-nil so_far.0 in
    so_far.3 ∙ sym (ap pairs_in all) ∙ ap header_pairs c.as_bytes-value.ensures.value

pub returns-clause-header : goal.returns-clause-header
returns-clause-header c =
    let so_far = c.loop-at.invariant in
    let past = items_from_past c.as_bytes-value.result.now c.loop-at.at (omega arith) in
    let all : so_far.0 ≡ items_of c.args.value.now =
    sym (so_far.1 ∙ ap (λ items. so_far.0 ++ items) past ∙ append-nil so_far.0) ∙ ap items_of c.as_bytes-value.ensures.value in
    subst AreItems all so_far.2
