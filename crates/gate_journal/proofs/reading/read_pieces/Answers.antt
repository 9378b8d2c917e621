use Rattle.std.proofs.Common.{◌≡◌, ◌+◌, ◌-◌, ◌<◌, ℕ, List, [], ◌∷◌, ◌++◌, length, map, get_or, take, drop, Err, sym, ap, ◌∙◌, subst, arith}
use Rattle.std.proofs.lemmas.List.{map_push}
use Rattle.std.specs.Int.{w32, from_be_bytes}
use Rattle.lti_outside.proofs.DiskMomentLemmas.{OnlyReads-then}
use Rattle.gate_journal.specs.Half.{blocks, length_bytes}
use Rattle.gate_journal.specs.Pieces.{payloads_of, places_from}
use Rattle.gate_journal.specs.declared.piece.Piece.{Piece}
use Rattle.gate_journal.proofs.BlockLemmas.{length-blocks-push}
use Rattle.gate_journal.proofs.ReadingLemmas.{one_more, ended, passed, places_from-push}
use Rattle.gate_journal.proofs.reading.read_pieces.Goals as goal

pub returns-in_err-payload-clause-damaged : goal.returns-in_err-payload-clause-damaged
returns-in_err-payload-clause-damaged g c = λ tells at is.
    let i = c.loop-pieces.invariant in
    let seen = g.D.Disk.seen c.args.disk.now in
    let room = c.requires.room in
    let d = rw is at c.from_residual-in_err-payload.ensures.1 in
    let here = c.in_err-payload.ensures.damaged at (ap Err (sym d)) in
    let passes = c.in_err-payload.ensures.passes tells at (ap Err (sym d)) in
    let opened = c.in_ok-is_open.ensures in
    let same = opened.reads.same ∙ i.reads.same in
    let gate = ap (λ (l : List ℕ). get_or l c.loop-pieces.at 0) (sym i.reads.same) ∙ (opened.gate tells).0 c.if-branch.true in
    let passes' = subst (λ (l : List ℕ). c.args.base + c.args.half < c.loop-pieces.at + 6 + from_be_bytes w32 (take 4 (drop (c.loop-pieces.at + 1) l))) same passes in
    let ends = i.ends in (
      c.loop-pieces.at - c.args.base,
      omega (arith, here, ends),
      passed seen c.args.base c.args.half c.loop-pieces.at (payloads_of c.loop-pieces.pieces.items) (i.so_far tells) i.ends i.inside room gate passes',
    )

pub loop-pieces-preserved : goal.loop-pieces-preserved
loop-pieces-preserved g c =
    let i = c.loop-pieces.invariant in
    let room = c.requires.room in
    let opened = c.in_ok-is_open.ensures in
    let read = c.in_ok-payload.ensures in
    let seen = g.D.Disk.seen c.args.disk.now in
    let at = c.loop-pieces.at in
    let payloads = payloads_of c.loop-pieces.pieces.items in
    let payload = c.in_ok-payload.payload.items in
    let piece : Piece = record { at = at; payload = c.from_vec.result } in
    let n : c.len.result ≡ length payload = omega (arith, c.len.ensures, c.in_ok-payload.payload.ok.0) in
    let same = opened.reads.same ∙ i.reads.same in
    let pushed : payloads_of c.push.new.self.items ≡ payloads ++ payload ∷ [] =
    ap (λ (l : List Piece). payloads_of l) {y = c.loop-pieces.pieces.items ++ piece ∷ []} c.in_ok-push.ensures.items ∙ map_push (λ (p : Piece). p.payload.list) c.loop-pieces.pieces.items piece ∙ ap (λ (l : List ℕ). payloads ++ l ∷ []) c.from_vec.ensures in
    let within : at < length seen = omega (arith, i.inside, room) in
    record {
      reads = OnlyReads-then g.D.Disk c.args.disk.now c.is_open.new.disk c.read_payload.new.disk (OnlyReads-then g.D.Disk c.args.disk.now c.loop-pieces.disk c.is_open.new.disk i.reads opened.reads) read.reads;
      faults = read.faults ∙ opened.faults ∙ i.faults;
      so_far = λ tells.
          let gate = ap (λ (l : List ℕ). get_or l at 0) (sym i.reads.same) ∙ (opened.gate tells).0 c.if-branch.true in
          let bytes : drop (at + 1) seen ≡ length_bytes (length payload) ++ payload ++ drop (at + 5 + length payload) seen =
          ap (λ (l : List ℕ). drop (at + 1) l) (sym same) ∙ read.bytes tells ∙ ap (λ (l : List ℕ). length_bytes (length payload) ++ payload ++ drop (at + 5 + length payload) l) same in
          one_more seen c.args.base at payloads payload (i.so_far tells) within gate bytes
          ∙ ap (λ (l : List (List ℕ)). blocks l ++ drop (at + 5 + length payload) seen) (sym pushed)
          ∙ ap (λ (k : ℕ). blocks (payloads_of c.push.new.self.items) ++ drop (at + 5 + k) seen) (sym n);
      ends = omega (arith, length-blocks-push payloads payload, n, i.ends, ap (λ (l : List (List ℕ)). length (blocks l)) pushed);
      inside = omega (arith, read.fits, n);
      places =
          ap (λ (l : List Piece). map (λ (p : Piece). p.at) l) c.in_ok-push.ensures.items
          ∙ map_push (λ (p : Piece). p.at) c.loop-pieces.pieces.items piece
          ∙ ap (λ (l : List ℕ). l ++ at ∷ []) i.places
          ∙ ap (λ (k : ℕ). places_from (c.args.base + 9) payloads ++ k ∷ []) (sym i.ends)
          ∙ sym (places_from-push (c.args.base + 9) payloads payload)
          ∙ ap (λ (l : List (List ℕ)). places_from (c.args.base + 9) l) (sym pushed);
    }

pub returns-clause-filled : goal.returns-clause-filled
returns-clause-filled g c = λ tells.
    let i = c.loop-pieces.invariant in
    let room = c.requires.room in
    let gate = ap (λ (l : List ℕ). get_or l c.loop-pieces.at 0) i.reads.same in
    ended (g.D.Disk.seen c.args.disk.now) c.args.base c.args.half c.loop-pieces.at (payloads_of c.loop-pieces.pieces.items) (i.so_far tells) i.ends i.inside room
    (λ one. let yes' = (c.in_ok-is_open.ensures.gate tells).1 (gate ∙ one) in cc (yes', c.if-branch.false))
