use Rattle.std.proofs.Common.{◌≡◌, ◌++◌, ◌∷◌, false, true, sym, subst, codes}
use Rattle.pox_outcomes.specs.Written.{escape_part}
use Rattle.pox_outcomes.specs.Answered.{description}
use Rattle.pox_outcomes.specs.declared.told.Told.{Told}
use Rattle.pox_outcomes.proofs.WritingLemmas.{append_step}
use Rattle.pox_outcomes.proofs.answers.put_description.Goals as goal

pub returns-in-UnknownId-clause-list : goal.returns-in-UnknownId-clause-list
returns-in-UnknownId-clause-list c =
    let out = c.args.out.now.list in
    let id = c.args.id.now in
    subst (λ (t : Told). c.put_last_id-in-UnknownId.new.out.list ≡ out ++ description t id) (sym c.in-UnknownId.is)
    (append_step out (codes "Unknown sourcedId") (escape_part false true (32 ∷ id)) c.put-in-UnknownId.new.out.list c.put_last_id-in-UnknownId.new.out.list c.put-in-UnknownId.ensures.list c.put_last_id-in-UnknownId.ensures.list)

pub returns-in-BadScore-clause-list : goal.returns-in-BadScore-clause-list
returns-in-BadScore-clause-list c =
    let out = c.args.out.now.list in
    let id = c.args.id.now in
    subst (λ (t : Told). c.put_scored-in-BadScore.new.out.list ≡ out ++ description t id) (sym c.in-BadScore.is) c.put_scored-in-BadScore.ensures.list
