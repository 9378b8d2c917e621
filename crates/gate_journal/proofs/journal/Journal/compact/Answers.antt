use Rattle.std.proofs.Common.{◌+◌, List, ℕ, subst}
use Rattle.gate_journal.specs.Changes.{Repacks}
use Rattle.gate_journal.proofs.journal.Journal.compact.Goals as goal

pub returns-clause-repacks : goal.returns-clause-repacks
returns-clause-repacks g c = subst (λ (l : List ℕ). Repacks {g = g.D.Disk} c.args.self.now c.replace.new.self c.replace.result (c.args.self.now.generation + 1) l) c.get.ensures c.replace.ensures.repacks
