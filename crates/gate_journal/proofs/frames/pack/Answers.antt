use Rattle.std.proofs.Common.{◌≡◌, ◌+◌, List, ℕ, [], ◌∷◌, ◌++◌, map, take, get_or, sym, ◌∙◌, ap, append_assoc}
use Rattle.std.proofs.lemmas.List.{take_more, map_push}
use Rattle.std.specs.Int.{w64, to_be_bytes}
use Rattle.lti_outside.specs.Held.{Held}
use Rattle.gate_journal.specs.Half.{blocks}
use Rattle.gate_journal.proofs.BlockLemmas.{blocks-append}
use Rattle.gate_journal.proofs.frames.pack.Goals as goal

pub loop-piece-preserved : goal.loop-piece-preserved
loop-piece-preserved c =
    let pieces = c.args.pieces.now in
    let i = c.loop-piece.piece-index in
    let list : Held → List ℕ = λ h. h.list in
    let before = map list (take i pieces) in
    let piece = c.piece-item.result in
    let head = to_be_bytes w64 c.args.generation in
    let more : map list (take (i + 1) pieces) ≡ before ++ c.get.result.now ∷ [] =
    ap (λ (l : List Held). map list l) (take_more pieces i piece c.loop-piece-test.true) ∙ map_push list (take i pieces) (get_or pieces i piece)
    ∙ ap (λ (h : Held). before ++ h.list ∷ []) (sym c.piece-item.is) ∙ ap (λ (l : List ℕ). before ++ l ∷ []) (sym c.get.ensures) in
    c.in_ok-push_piece.ensures ∙ ap (λ (l : List ℕ). l ++ blocks (c.get.result.now ∷ [])) c.loop-piece.invariant
    ∙ append_assoc head (blocks before) (blocks (c.get.result.now ∷ []))
    ∙ ap (λ (l : List ℕ). head ++ l) (sym (blocks-append before (c.get.result.now ∷ [])))
    ∙ ap (λ (l : List (List ℕ)). head ++ blocks l) (sym more)
