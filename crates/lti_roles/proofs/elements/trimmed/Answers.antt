use Rattle.std.proofs.Common.{ap, ◌∙◌}
use Rattle.lti_roles.specs.Elements.{trim_end}
use Rattle.lti_roles.proofs.TrimLemmas.{front_is, end_is}
use Rattle.lti_roles.proofs.elements.trimmed.Goals as goal

pub returns : goal.returns
returns c =
    end_is c.trim_start_matches.result.now c.trim_end_matches.result.now c.trim_end_matches.ensures.matches
    ∙ ap trim_end (front_is c.args.piece.now c.trim_start_matches.result.now c.trim_start_matches.ensures.matches)
