-- A text without spaces and tabs at its ends.
use Rattle.std.proofs.Common.{◌≡◌, ℕ, false, List, [], ◌∷◌, ◌++◌, reverse, sym, ap, ◌∙◌}
use Rattle.std.proofs.lemmas.Bool.{cond-false}
use Rattle.std.proofs.lemmas.List.{reverse-append, reverse-reverse}
use Rattle.oauth_text.specs.Blanks.{is_blank, trim_front, trim_end}

-- a text that begins with another byte stays
pub trim_front_done : (b : ℕ) (text : List ℕ) → is_blank b ≡ false → trim_front (b ∷ text) ≡ b ∷ text
trim_front_done b text done = cond-false (is_blank b) (trim_front text) (b ∷ text) done

-- a text that ends in another byte stays
pub trim_end_done : (text : List ℕ) (b : ℕ) → is_blank b ≡ false → trim_end (text ++ b ∷ []) ≡ text ++ b ∷ []
trim_end_done text b done =
    ap (λ bs. reverse (trim_front bs)) (reverse-append text (b ∷ []))
    ∙ ap reverse (cond-false (is_blank b) (trim_front (reverse text)) (b ∷ reverse text) done)
    ∙ ap reverse (sym (reverse-append text (b ∷ [])))
    ∙ reverse-reverse (text ++ b ∷ [])
