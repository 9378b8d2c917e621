use Rattle.std.proofs.Common.{◌++◌, ℕ, List, codes, map, map-id, ap, sym, ◌∙◌}
use Rattle.std.proofs.lemmas.Iterator.{YieldsList-from_chars}
use Rattle.std.proofs.lemmas.Iterator.Consumers.{YieldsList-end}
use Rattle.lti_launch.specs.CustomName as spec
use Rattle.lti_launch.proofs.custom_names.custom_name.Goals as goal

pub returns : goal.returns
returns c =
    let end = YieldsList-end (YieldsList-from_chars c.args.text.now c.utf8.text cc) c.loop-c.yielded _ c.loop-c.yielded_by _ _ c.in-None.is c.next.ensures.steps in
    c.from_string.ensures ∙ c.loop-c.invariant
    ∙ ap (λ (characters : List ℕ). codes "custom_" ++ map spec.custom_character characters) (sym (map-id c.loop-c.yielded) ∙ end.0)
