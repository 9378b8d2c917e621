use Rattle.std.proofs.Common.{sym, ◌∙◌}
use Rattle.lti_launch.proofs.FoundLemmas.{found_at, found_nowhere}
use Rattle.lti_launch.proofs.found.first_repeated.Goals as goal

pub returns-in_err-place : goal.returns-in_err-place
returns-in_err-place c = λ pairs is. c.from_residual.ensures ∙ sym (found_nowhere c.args.found.now pairs is c.in_err-place.ensures)

pub returns : goal.returns
returns c = λ pairs is. c.at.ensures ∙ found_at c.args.found.now pairs is c.in_ok-place.place c.in_ok-place.ensures
