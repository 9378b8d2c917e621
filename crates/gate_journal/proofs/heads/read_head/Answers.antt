use Rattle.std.proofs.Common.{◌∙◌}
use Rattle.gate_journal.proofs.ReadingLemmas.{generation_read}
use Rattle.gate_journal.proofs.heads.read_head.Goals as goal

pub returns-clause-generation : goal.returns-clause-generation
returns-clause-generation g c = λ tells.
    c.head_of.ensures.generation ∙ generation_read (g.D.Disk.seen c.args.disk.now) _ c.args.base (c.in_ok-read_at.ensures.bytes tells)
