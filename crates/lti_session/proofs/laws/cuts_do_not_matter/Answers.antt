use Rattle.lti_session.proofs.CutLemmas.{cuts}
use Rattle.lti_session.proofs.laws.cuts_do_not_matter.Goals as goal

pub returns : goal.returns
returns c = cuts
