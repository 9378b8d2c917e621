use Rattle.std.proofs.Common.{◌≡◌, List, [], ◌∷◌, ℕ, ap, sym, ◌∙◌, arith}
use Rattle.lti_words.specs.Command.{texts}
use Rattle.lti_words.proofs.WordLemmas.{one, one_text}
use Rattle.lti_words.proofs.command_words.is_answer.Goals as goal

pub returns-in-len1 : goal.returns-in-len1
returns-in-len1 c =
    let is = one c.args.words.now c.word-item.result (omega (arith, c.in-len1.len_at_least, c.in-len1.len_below)) c.word-item.is in
    let same : texts c.args.words.now ≡ c.as_str.result.now ∷ [] = ap texts is ∙ ap (λ (b : List ℕ). b ∷ []) (sym c.as_str.ensures.value) in
    rw same (one_text _ _ _ c.is_word.ensures)
