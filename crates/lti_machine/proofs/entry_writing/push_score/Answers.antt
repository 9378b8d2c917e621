use Rattle.std.proofs.Common.{◌≡◌, ◌++◌, ℕ, List, OnOk, ap, ◌∙◌, subst}
use Rattle.std.specs.Int.{w128, to_be_bytes}
use Rattle.lti_machine.proofs.entry_writing.push_score.Goals as goal

pub returns-clause-bytes : goal.returns-clause-bytes
returns-clause-bytes c =
    subst (λ (bytes : List ℕ). OnOk c.push.result (c.push.new.self.list ≡ c.args.bytes.now.list ++ bytes))
    (c.to_be_bytes.ensures ∙ ap (λ n. to_be_bytes w128 n) c.parts.ensures.parts)
    c.push.ensures.ok
