use Rattle.std.proofs.Common.{◌++◌, ◌∷◌, [], false, Bool, ap, ◌∙◌}
use Rattle.pox_outcomes.specs.Written.{escape_part}
use Rattle.pox_outcomes.proofs.WritingLemmas.{last_part}
use Rattle.pox_outcomes.proofs.answers.put_last_id.Goals as goal

pub returns-clause-list : goal.returns-clause-list
returns-clause-list c =
    let out = c.args.out.now.list in
    let first = c.put_part.ensures.list ∙ ap (λ (t : Bool). out ++ escape_part false t (32 ∷ [])) c.is_empty.ensures in
    last_part out c.args.id.now c.put_part.new.out.list c.put_part-2.new.out.list first c.put_part-2.ensures.list
