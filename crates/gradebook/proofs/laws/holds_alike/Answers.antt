use Rattle.gradebook.proofs.BookLemmas.{holds_alike}
use Rattle.gradebook.proofs.laws.holds_alike.Goals as goal

pub returns : goal.returns
returns c = holds_alike
