use Rattle.nonce_window.proofs.LawLemmas.{knows_used}
use Rattle.nonce_window.proofs.laws.knows_used.Goals as goal

pub returns : goal.returns
returns c = knows_used
