use Rattle.std.proofs.Common.{◌≡◌, ◌++◌, ℕ, List, OnOk, sym, ap, ◌∙◌, subst, append_assoc}
use Rattle.std.specs.Int.{w128, to_be_bytes}
use Rattle.lti_machine.specs.EntryBytes.{text_bytes, effect_parts}
use Rattle.lti_machine.proofs.entry_writing.push_parts.Goals as goal

pub returns-in_ok-push_text-in-Grade-clause-bytes : goal.returns-in_ok-push_text-in-Grade-clause-bytes
returns-in_ok-push_text-in-Grade-clause-bytes c =
    subst (λ (bytes : List ℕ). OnOk c.push_score.result (c.push_score.new.bytes.list ≡ bytes))
    (ap (λ (l : List ℕ). l ++ to_be_bytes w128 c.in-Grade.score) c.in_ok-push_text-in-Grade.ensures.bytes
    ∙ append_assoc c.args.bytes.now.list (text_bytes c.in-Grade.id) (to_be_bytes w128 c.in-Grade.score)
    ∙ ap (λ e. c.args.bytes.now.list ++ effect_parts e) (sym c.in-Grade.is))
    c.push_score.ensures.bytes
