use Rattle.std.proofs.Common.{◌≡◌, length, string_bytes, rules, ap, ◌∙◌}
use Rattle.lti_operator.specs.Made.{nonce_text}
use Rattle.lti_operator.proofs.MadeLemmas.{nonce-length}
use Rattle.lti_operator.proofs.making.made_nonce.Goals as goal

pub returns-clause-length : goal.returns-clause-length
returns-clause-length g c =
    let text : string_bytes c.push_str.new.self ≡ nonce_text c.word-first.result c.word-second.result = search rules in
    ap length text ∙ nonce-length c.word-first.result c.word-second.result
