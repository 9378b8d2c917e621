use Rattle.std.proofs.Common.{◌≡◌, ◌+◌, ◌<◌, ◌++◌, length, take, drop, refl, sym, ap, ◌∙◌, arith}
use Rattle.std.proofs.lemmas.Grind.{common_steps}
use Rattle.lti_outside.specs.Traffic.{Told}
use Rattle.lti_outside.specs.Pieces.{lists, piece_at, from, before}
use Rattle.lti_outside.proofs.PieceLemmas.{from_step, before_step, piece_at-lists}
use Rattle.lti_outside.proofs.memory_source.MemorySourceSource.take.Goals as goal

pub copy_from-count-requires : goal.copy_from-count-requires
copy_from-count-requires c =
    let within : c.skip.new.self.place < length c.skip.new.self.pieces.items = grind (arith, common_steps) in
    let open_at = c.skip.ensures.open (omega arith) in
    let piece = piece_at-lists c.skip.new.self.pieces.items c.skip.new.self.place c.index.result.now c.get-piece.result.now within c.index.ensures c.get-piece.ensures in
    rw piece (omega (arith, open_at))

pub returns-clause-taken : goal.returns-clause-taken
returns-clause-taken c =
    let pieces = lists c.skip.new.self.pieces.items in
    let place = c.skip.new.self.place in
    let at = c.skip.new.self.at in
    let n = c.copy_from-count.result in
    let within : c.skip.new.self.place < length c.skip.new.self.pieces.items = grind (arith, common_steps) in
    let piece = piece_at-lists c.skip.new.self.pieces.items place c.index.result.now c.get-piece.result.now within c.index.ensures c.get-piece.ensures in
    let read : take n c.copy_from-count.new.buf ≡ take n (drop at (piece_at pieces place)) = c.copy_from-count.ensures.bytes ∙ ap (λ bs. take n (drop at bs)) piece in
    record {
      bytes = (
        sym (ap (λ (t : Told). t.left) c.skip.ensures.told) ∙ from_step pieces place at n ∙ ap (λ xs. xs ++ from pieces place (at + n)) (sym read),
        before_step pieces place at n ∙ ap (λ xs. before pieces place at ++ xs) (sym read) ∙ ap (λ xs. xs ++ take n c.copy_from-count.new.buf) (ap (λ (t : Told). t.taken) c.skip.ensures.told),
        refl,
      );
      faults = (c.skip.ensures.faults, refl);
    }

pub returns-clause-end : goal.returns-clause-end
returns-clause-end c = λ none.
    let within : c.skip.new.self.place < length c.skip.new.self.pieces.items = grind (arith, common_steps) in
    let open_at = c.skip.ensures.open (omega arith) in
    let piece = piece_at-lists c.skip.new.self.pieces.items c.skip.new.self.place c.index.result.now c.get-piece.result.now within c.index.ensures c.get-piece.ensures in
    let some : 0 < c.copy_from-count.result = c.copy_from-count.ensures.some c.requires (rw piece (omega (arith, open_at))) in
    absurd (omega arith)
