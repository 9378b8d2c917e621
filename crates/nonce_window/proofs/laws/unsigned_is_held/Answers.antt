use Rattle.nonce_window.proofs.LawLemmas.{unsigned_is_held}
use Rattle.nonce_window.proofs.laws.unsigned_is_held.Goals as goal

pub returns : goal.returns
returns c = unsigned_is_held
