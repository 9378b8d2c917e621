use Rattle.nonce_window.proofs.LawLemmas.{forgetting_changes_no_verdict}
use Rattle.nonce_window.proofs.laws.forgetting_changes_no_verdict.Goals as goal

pub returns : goal.returns
returns c = forgetting_changes_no_verdict
