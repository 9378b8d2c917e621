use Rattle.std.proofs.Common.{◌≡◌, ℕ, List, [], ◌∷◌, ap, sym, subst, arith, MatchOption, length, rules}
use Rattle.std.proofs.lemmas.Grind.{common_steps}
use Rattle.lti_words.specs.Command.{AsksServe, texts}
use Rattle.lti_words.proofs.WordLemmas.{two, AsksServe-length, texts-length}
use Rattle.lti_words.proofs.words_of_serve.read_serve.Goals as goal

pub returns-then-not-has_words : goal.returns-then-not-has_words
returns-then-not-has_words c = λ at is.
    let len : length c.args.words.now ≡ 2 = omega (arith, AsksServe-length (texts c.args.words.now) at is, texts-length c.args.words.now) in
    let holds = c.has_words.ensures.1 len in
    absurd (grind (arith, common_steps, holds))

pub returns : goal.returns
returns c =
    let all = two c.args.words.now c.index-words-0.result c.index-words-1.result
    (c.has_words.ensures.0 (search rules)) c.index-words-0.is c.index-words-1.is in
    let seen = ap texts all in
    let is : texts c.args.words.now ≡ c.as_str.result.now ∷ c.as_str-2.result.now ∷ [] = cc in
    subst (λ (ws : List (List ℕ)). MatchOption c.serve_words.result ((at : List ℕ) → AsksServe ws at → ⊥) (λ at. AsksServe ws at.now)) (sym is) c.serve_words.ensures
