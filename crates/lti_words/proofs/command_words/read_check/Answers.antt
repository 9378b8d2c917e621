use Rattle.std.proofs.Common.{◌≡◌, ℕ, List, [], ◌∷◌, ap, sym, subst, arith, MatchOption, IfOk, length, rules}
use Rattle.std.proofs.lemmas.Grind.{common_steps}
use Rattle.lti_words.specs.Command.{CheckCommand, IsCheck, texts}
use Rattle.lti_words.specs.CommandView.{check_of}
use Rattle.lti_words.proofs.WordLemmas.{five, IsCheck-length, texts-length}
use Rattle.lti_words.proofs.command_words.read_check.Goals as goal

pub returns-then-not-has_words : goal.returns-then-not-has_words
returns-then-not-has_words c = λ asked is.
    let len : length c.args.words.now ≡ 5 = omega (arith, IsCheck-length (texts c.args.words.now) asked is, texts-length c.args.words.now) in
    let holds = c.has_words.ensures.1 len in
    absurd (grind (arith, common_steps, holds))

pub returns : goal.returns
returns c =
    let all = five c.args.words.now c.index-words-0.result c.index-words-1.result c.index-words-2.result c.index-words-3.result c.index-words-4.result
    (c.has_words.ensures.0 (search rules)) c.index-words-0.is c.index-words-1.is c.index-words-2.is c.index-words-3.is c.index-words-4.is in
    let seen = ap texts all in
    let is : texts c.args.words.now ≡ c.as_str.result.now ∷ c.as_str-2.result.now ∷ c.as_str-3.result.now ∷ c.as_str-4.result.now ∷ c.as_str-5.result.now ∷ [] = cc in
    subst (λ (ws : List (List ℕ)). IfOk c.check_words.result (λ found. MatchOption found ((asked : CheckCommand) → IsCheck ws asked → ⊥) (λ asked. IsCheck ws (check_of asked)))) (sym is) c.check_words.ensures
