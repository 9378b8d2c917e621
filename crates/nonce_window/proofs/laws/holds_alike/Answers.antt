use Rattle.nonce_window.proofs.LawLemmas.{holds_alike}
use Rattle.nonce_window.proofs.laws.holds_alike.Goals as goal

pub returns : goal.returns
returns c = holds_alike
