use Rattle.http_wire.proofs.UniqueLemmas.{one_spelling}
use Rattle.http_wire.proofs.laws.one_spelling.Goals as goal

pub returns : goal.returns
returns c = one_spelling
