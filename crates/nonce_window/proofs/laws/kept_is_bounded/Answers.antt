use Rattle.nonce_window.proofs.LawLemmas.{kept_is_bounded}
use Rattle.nonce_window.proofs.laws.kept_is_bounded.Goals as goal

pub returns : goal.returns
returns c = kept_is_bounded
