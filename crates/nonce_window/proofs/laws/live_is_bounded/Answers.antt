use Rattle.nonce_window.proofs.LawLemmas.{live_is_bounded}
use Rattle.nonce_window.proofs.laws.live_is_bounded.Goals as goal

pub returns : goal.returns
returns c = live_is_bounded
