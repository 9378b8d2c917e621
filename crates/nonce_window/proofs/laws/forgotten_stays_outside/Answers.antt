use Rattle.nonce_window.proofs.LawLemmas.{forgotten_stays_outside}
use Rattle.nonce_window.proofs.laws.forgotten_stays_outside.Goals as goal

pub returns : goal.returns
returns c = forgotten_stays_outside
