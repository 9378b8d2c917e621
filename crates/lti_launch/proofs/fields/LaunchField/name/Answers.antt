use Rattle.lti_launch.proofs.FieldLemmas.{name_at}
use Rattle.lti_launch.proofs.fields.LaunchField.name.Goals as goal

pub returns : goal.returns
returns c = name_at c.all_names.result.now c.place.result _ c.args.self c.place.ensures.place c.all_names.ensures.names
