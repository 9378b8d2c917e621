use Rattle.std.proofs.Common.{◌≡◌, ℕ, List, [], ◌∷◌, ap, sym, subst, arith, MatchOption, get_or, string_bytes, length, rules}
use Rattle.std.proofs.lemmas.Grind.{common_steps}
use Rattle.lti_words.specs.Command.{PassbackCommand, IsPassback, texts}
use Rattle.lti_words.specs.CommandView.{passback_of}
use Rattle.lti_words.proofs.WordLemmas.{six, IsPassback-length, texts-length}
use Rattle.lti_words.proofs.words_of_passback.read_passback.Goals as goal

pub returns-then-not-has_words : goal.returns-then-not-has_words
returns-then-not-has_words c = λ asked is.
    let len : length c.args.words.now ≡ 6 = omega (arith, IsPassback-length (texts c.args.words.now) asked is, texts-length c.args.words.now) in
    let holds = c.has_words.ensures.1 len in
    absurd (grind (arith, common_steps, holds))

pub returns : goal.returns
returns c =
    let all = six c.args.words.now c.index-words-0.result c.index-words-2.result c.index-words-3.result c.index-words-4.result c.index-words-5.result
    (c.has_words.ensures.0 (search rules)) c.index-words-0.is c.index-words-2.is c.index-words-3.is c.index-words-4.is c.index-words-5.is in
    let seen = ap texts all in
    let is : texts c.args.words.now ≡ c.as_str.result.now ∷ string_bytes (get_or c.args.words.now 1 c.index-words-0.result) ∷ c.as_str-2.result.now ∷ c.as_str-3.result.now ∷ c.as_str-4.result.now ∷ c.as_str-5.result.now ∷ [] = cc in
    subst (λ (ws : List (List ℕ)). MatchOption c.passback_words.result ((asked : PassbackCommand) → IsPassback ws asked → ⊥) (λ asked. IsPassback ws (passback_of asked))) (sym is) c.passback_words.ensures
