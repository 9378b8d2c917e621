use Rattle.std.proofs.Common.{◌≡◌, ℕ, List, [], ◌∷◌, ap, sym, subst, arith, MatchOption, IfOk, length, rules}
use Rattle.std.proofs.lemmas.Grind.{common_steps}
use Rattle.lti_words.specs.Command.{LaunchCommand, IsLaunch, texts}
use Rattle.lti_words.specs.CommandView.{launch_of}
use Rattle.lti_words.proofs.WordLemmas.{seven, IsLaunch-length, texts-length}
use Rattle.lti_words.proofs.words_of_launch.read_launch.Goals as goal

pub returns-then-not-has_words : goal.returns-then-not-has_words
returns-then-not-has_words c = λ asked is.
    let len : length c.args.words.now ≡ 7 = omega (arith, IsLaunch-length (texts c.args.words.now) asked is, texts-length c.args.words.now) in
    let holds = c.has_words.ensures.1 len in
    absurd (grind (arith, common_steps, holds))

pub returns : goal.returns
returns c =
    let all = seven c.args.words.now c.index-words-0.result c.index-words-1.result c.index-words-2.result c.index-words-3.result c.index-words-4.result c.index-words-5.result c.index-words-6.result
    (c.has_words.ensures.0 (search rules)) c.index-words-0.is c.index-words-1.is c.index-words-2.is c.index-words-3.is c.index-words-4.is c.index-words-5.is c.index-words-6.is in
    let seen = ap texts all in
    let is : texts c.args.words.now ≡ c.as_str.result.now ∷ c.as_str-2.result.now ∷ c.as_str-3.result.now ∷ c.as_str-4.result.now ∷ c.as_str-5.result.now ∷ c.as_str-6.result.now ∷ c.as_str-7.result.now ∷ [] = cc in
    subst (λ (ws : List (List ℕ)). IfOk c.launch_words.result (λ found. MatchOption found ((asked : LaunchCommand) → IsLaunch ws asked → ⊥) (λ asked. IsLaunch ws (launch_of asked)))) (sym is) c.launch_words.ensures
