use Rattle.pox_outcomes.proofs.AllowedLemmas.{read_is_writable}
use Rattle.pox_outcomes.proofs.laws.read_is_writable.Goals as goal

pub returns : goal.returns
returns c = read_is_writable
