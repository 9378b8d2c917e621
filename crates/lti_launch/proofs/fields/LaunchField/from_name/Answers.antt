use Rattle.std.proofs.Common.{◌∙◌}
use Rattle.lti_launch.proofs.FieldLemmas.{find_of_length}
use Rattle.lti_launch.proofs.fields.LaunchField.from_name.Goals as goal

pub returns : goal.returns
returns c = c.first_named.ensures ∙ rw c.fields_of_length.ensures (find_of_length c.args.name.now)
