use Rattle.http_wire.proofs.UniqueLemmas.{no_proper_front}
use Rattle.http_wire.proofs.laws.no_proper_front.Goals as goal

pub returns : goal.returns
returns c = no_proper_front
