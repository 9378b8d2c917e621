use Rattle.std.proofs.Common.{List, ℕ, ap, ◌∙◌, bytes_eq}
use Rattle.std.specs.List.{find}
use Rattle.lti_launch.specs.Fields.{all_fields, name_of}
use Rattle.lti_launch.proofs.KindLemmas.{found_by_name}
use Rattle.lti_launch.proofs.kinds.field_of.Goals as goal

pub returns : goal.returns
returns c =
    found_by_name c.args.pair.now c.from_name.result
    (c.from_name.ensures ∙ ap (λ (name : List ℕ). find (λ field. bytes_eq (name_of field) name) all_fields) c.get.ensures)
