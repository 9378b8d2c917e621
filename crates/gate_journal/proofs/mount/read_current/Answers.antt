use Rattle.std.proofs.Common.{ℕ, ◌∙◌, ap, List}
use Rattle.gate_journal.specs.Half.{opens, generation_at}
use Rattle.gate_journal.proofs.ReadingLemmas.{current_read}
use Rattle.gate_journal.proofs.mount.read_current.Goals as goal

pub returns-clause-heads : goal.returns-clause-heads
returns-clause-heads g c = λ tells gate.
    let seen = g.D.Disk.seen c.args.disk.now in
    let half = c.args.half in
    let same = c.in_ok-first.ensures.reads.same in
    let b = c.in_ok-second.ensures.gate tells ∙ ap (λ (l : List ℕ). opens l half) same in
    let n = c.in_ok-second.ensures.generation tells ∙ ap (λ (l : List ℕ). generation_at l half) same in
    let made = c.current_of.ensures in
    current_read seen half gate c.in_ok-first.first c.in_ok-second.second c.current_of.result (c.in_ok-first.ensures.gate tells) (c.in_ok-first.ensures.generation tells) b n made.second made.generation made.open made.may_open
