use Rattle.std.proofs.Common.{◌≡◌, false, not, ◌&&◌, ◌==◌, cond, get_or, arith}
use Rattle.std.proofs.lemmas.Bool.Decides.{nat_tests}
use Rattle.oauth_header.proofs.PieceLemmas.{piece_len_here, piece_len_next, piece_len_past}
use Rattle.oauth_header.proofs.pieces.first_piece_len.Goals as goal
use Rattle.oauth_header.proofs.pieces.first_piece_len.Goals.{else-b-eq44-via-then-b-eq44+else-not-odd, else-b-eq44-via-else-b-eq44, then-b-eq34, else-b-eq34}

pub returns-then-not-odd-clause-len : goal.returns-then-not-odd-clause-len
returns-then-not-odd-clause-len c =
    let here = piece_len_here c.loop-place.odd c.args.text.now c.loop-place.place (omega arith) (grind (arith, nat_tests)) in
    omega (arith, here, c.loop-place.invariant)

pub loop-place-preserved : goal.loop-place-preserved
loop-place-preserved c =
    let other : (get_or c.args.text.now c.loop-place.place 0 == 44 && not c.loop-place.odd) ≡ false =
    elim c.else-b-eq44.branch [ else-b-eq44-via-then-b-eq44+else-not-odd w ↦ grind (arith, nat_tests) | else-b-eq44-via-else-b-eq44 w ↦ grind (arith, nat_tests) ] in
    let odd : c.if-b-eq34.odd ≡ cond (get_or c.args.text.now c.loop-place.place 0 == 34) (not c.loop-place.odd) c.loop-place.odd =
    elim c.if-b-eq34.branch [ then-b-eq34 w ↦ grind (arith, nat_tests) | else-b-eq34 w ↦ grind (arith, nat_tests) ] in
    let next = piece_len_next c.loop-place.odd c.args.text.now c.loop-place.place (omega arith) other in
    rw odd (omega (arith, next, c.loop-place.invariant))

pub returns-clause-len : goal.returns-clause-len
returns-clause-len c =
    let past = piece_len_past c.loop-place.odd c.args.text.now c.loop-place.place (omega arith) in
    omega (arith, past, c.loop-place.invariant)
