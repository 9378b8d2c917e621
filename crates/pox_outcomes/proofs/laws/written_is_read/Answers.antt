use Rattle.pox_outcomes.proofs.BackLemmas.{written_is_read}
use Rattle.pox_outcomes.proofs.laws.written_is_read.Goals as goal

pub returns : goal.returns
returns c = written_is_read
