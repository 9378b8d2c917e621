use Rattle.std.proofs.Common.{◌≡◌, ◌+◌, ℕ, List, length, take, drop, sym, ap, ◌∙◌}
use Rattle.gate_journal.specs.Half.{length_bytes}
use Rattle.gate_journal.proofs.ReadingLemmas.{split_piece, if_ok}
use Rattle.gate_journal.proofs.reading.read_payload.Goals as goal

pub returns-clause-bytes : goal.returns-clause-bytes
returns-clause-bytes g c = λ tells.
    let seen = g.D.Disk.seen c.args.disk.now in
    let n = c.from-len.result in
    let head : length_bytes n ≡ take 4 (drop (c.args.at + 1) seen) = ap (λ (k : ℕ). length_bytes k) c.from-len.ensures ∙ c.in_ok-read_length.ensures.bytes tells in
    let same = c.in_ok-read_length.ensures.reads.same in
    if_ok c.read_bytes.result _ _ _ (c.read_bytes.ensures.bytes tells) c.read_bytes.ensures.len
    (λ payload is size.
    split_piece seen c.args.at (length payload.items) (length_bytes (length payload.items)) payload.items
    (ap (λ (k : ℕ). length_bytes k) size ∙ head)
    (is ∙ ap (λ (l : List ℕ). take n (drop (c.args.at + 5) l)) same ∙ ap (λ (k : ℕ). take k (drop (c.args.at + 5) seen)) (sym size)))
