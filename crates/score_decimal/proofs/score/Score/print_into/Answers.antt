use Rattle.std.proofs.Common.{sym, take}
use Rattle.score_decimal.proofs.WritingLemmas.{text_writes}
use Rattle.score_decimal.proofs.score.Score.print_into.Goals as goal

pub returns-clause-writes : goal.returns-clause-writes
returns-clause-writes c =
    rw (sym c.self.view_is) (text_writes (take c.write_units.result c.write_units.new.room) c.self.inside.units c.write_units.ensures.text c.self.invariant)
