-- The white space of the grammar is spaces and tabs.
use Rattle.std.proofs.Common.{◌≡◌, ℕ, cond, List, [], ◌∷◌, reverse, refl, ap, ◌∙◌}
use Rattle.httparse.specs.Grammar.{skip_ows, trim_ows}
use Rattle.oauth_text.specs.Blanks as blanks
use Rattle.http_wire.specs.Headers.{trim_end}

pub trim_front-is : (text : List ℕ) → blanks.trim_front text ≡ skip_ows text
trim_front-is [] = refl
trim_front-is (b ∷ text) = ap (λ rest. cond (blanks.is_blank b) rest (b ∷ text)) (trim_front-is text)

pub trim_end-is : (text : List ℕ) → blanks.trim_end text ≡ trim_end text
trim_end-is text = ap reverse (trim_front-is (reverse text))

pub trim-is : (text : List ℕ) → blanks.trim_end (blanks.trim_front text) ≡ trim_ows text
unfolding trim_ows
trim-is text = trim_end-is (blanks.trim_front text) ∙ ap trim_end (trim_front-is text)
