use Rattle.std.proofs.Common.{ℕ, List, length, subst, ap, arith}
use Rattle.gate_journal.specs.Half.{packed_generation}
use Rattle.gate_journal.specs.Changes.{Repacks}
use Rattle.gate_journal.proofs.BlockLemmas.{packed_generation-is, IsPacked-long}
use Rattle.gate_journal.proofs.journal.Journal.adopt.Goals as goal

pub replace-requires-clause-long : goal.replace-requires-clause-long
replace-requires-clause-long g c =
    let packed = c.requires.packed in
    omega (arith, ap length c.get-bytes.ensures, IsPacked-long packed.0 c.args.packed.now.list packed.2)

pub replace-requires-clause-above : goal.replace-requires-clause-above
replace-requires-clause-above g c =
    let packed = c.requires.packed in
    omega (arith, c.read_generation.ensures, ap packed_generation c.get-bytes.ensures, packed_generation-is packed.0 c.args.packed.now.list packed.2, packed.1)

pub returns-clause-repacks : goal.returns-clause-repacks
returns-clause-repacks g c =
    let here = subst (λ (k : ℕ). Repacks {g = g.D.Disk} c.args.self.now c.replace.new.self c.replace.result k c.get-bytes.result.now) c.read_generation.ensures c.replace.ensures.repacks in
    subst (λ (l : List ℕ). Repacks {g = g.D.Disk} c.args.self.now c.replace.new.self c.replace.result (packed_generation l) l) c.get-bytes.ensures here
