use Rattle.std.proofs.Common.{sym, ◌∙◌}
use Rattle.lti_machine.specs.Standings.{standing}
use Rattle.lti_machine.proofs.IssuedLemmas.{known_is_issued, unknown_from, unknown_not_known}
use Rattle.gradebook.proofs.laws.unknown_is_not_issued.Goals as goal

pub returns : goal.returns
returns c = λ entries key id.
    let known = known_is_issued entries (record { key = key; id = id }) in (
      λ unknown. sym known ∙ unknown_not_known (standing entries key id) unknown,
      λ missing. unknown_from (standing entries key id) (known ∙ missing),
    )
