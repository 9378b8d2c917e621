-- Lines, one after another, are a head behind the empty line.
use Rattle.std.proofs.Common.{◌≡◌, ℕ, ◌<◌, ◌==◌, ◌&&◌, ◌||◌, not, inl, inr, false, List, [], ◌∷◌, ◌++◌, length, refl, sym, ap, ◌∙◌, subst, append_assoc, append-nil, arith, length-append}
use Rattle.std.proofs.lemmas.List.Elements.{All-head, All-tail, All-append, All-cons, All-nil}
use Rattle.http_wire.specs.Shape.{head_end, HasNoHead, IsHead}
use Rattle.http_wire.specs.Taking.{HasNoLineFeed}
use Rattle.http_wire.specs.Lines.{has_bare_line_feed}
use Rattle.http_wire.specs.Written.{value_line}
use Rattle.http_wire.proofs.ShapeLemmas.{by_last, before_last, none_at_first, none_after, none_within}

abbrev pub crlf : List ℕ
crlf = 13 ∷ 10 ∷ []

-- lines that hold no head and no bare LF, whatever follows them
pub record IsLines (xs : List ℕ) : Type 0 where
  pub none : HasNoHead xs
  pub bare : (rest : List ℕ) → has_bare_line_feed 10 (xs ++ rest) ≡ has_bare_line_feed 10 rest

pub no_lines : IsLines []
no_lines = record { none = none_at_first; bare = λ rest. refl }

-- two bytes before the end are no LF, where the line before CR LF ends in none
no_end : (xs line : List ℕ) → HasNoLineFeed line → 0 < length line → (front : List ℕ) → (xs ++ (line ++ 13 ∷ [])) ++ 10 ∷ [] ≡ front ++ head_end → ⊥
no_end xs line none some front is =
    let cr : xs ++ (line ++ 13 ∷ []) ≡ front ++ 13 ∷ 10 ∷ 13 ∷ []
    = (before_last (xs ++ (line ++ 13 ∷ [])) (front ++ 13 ∷ 10 ∷ 13 ∷ []) 10 10 (is ∙ sym (append_assoc front (13 ∷ 10 ∷ 13 ∷ []) (10 ∷ [])))).0 in
    let body : xs ++ line ≡ front ++ 13 ∷ 10 ∷ []
    = (before_last (xs ++ line) (front ++ 13 ∷ 10 ∷ []) 13 13 (append_assoc xs line (13 ∷ []) ∙ cr ∙ sym (append_assoc front (13 ∷ 10 ∷ []) (13 ∷ [])))).0 in
    elim (by_last line) [
      | inl empty ↦ absurd (let e = ap length empty in omega (arith, e, some))
      | inr last ↦
          let ten : last.1 ≡ 10
          = (before_last (xs ++ last.0) (front ++ 13 ∷ []) last.1 10 (append_assoc xs last.0 (last.1 ∷ []) ∙ ap (λ l. xs ++ l) (sym last.2) ∙ body ∙ sym (append_assoc front (13 ∷ []) (10 ∷ [])))).1 in
          let other : (last.1 == 10) ≡ false = last_of last.0 last.1 (subst HasNoLineFeed last.2 none) in
          absurd (let t = sym other ∙ ap (λ b. b == 10) ten in cc)
    ]
  where
    last_of : (ys : List ℕ) (b : ℕ) → HasNoLineFeed (ys ++ b ∷ []) → (b == 10) ≡ false
    last_of [] b all = All-head (λ c. (c == 10) ≡ false) b [] all
    last_of (y ∷ ys) b all = last_of ys b (All-tail (λ c. (c == 10) ≡ false) y (ys ++ b ∷ []) all)

line_has_no_head : (xs line : List ℕ) → HasNoHead xs → HasNoLineFeed line → 0 < length line → HasNoHead (xs ++ (line ++ crlf))
line_has_no_head xs line none line_none some =
    let cr : HasNoLineFeed (line ++ 13 ∷ []) = All-append (λ (b : ℕ). (b == 10) ≡ false) line (13 ∷ []) line_none (All-cons (λ (b : ℕ). (b == 10) ≡ false) 13 [] refl (All-nil (λ (b : ℕ). (b == 10) ≡ false))) in
    let whole : (xs ++ (line ++ 13 ∷ [])) ++ 10 ∷ [] ≡ xs ++ (line ++ crlf) = append_assoc xs (line ++ 13 ∷ []) (10 ∷ []) ∙ ap (λ l. xs ++ l) (append_assoc line (13 ∷ []) (10 ∷ [])) in
    subst HasNoHead whole (none_after (xs ++ (line ++ 13 ∷ [])) 10 (none_within (line ++ 13 ∷ []) xs none cr) (no_end xs line line_none some))

line_is_not_bare : (line rest : List ℕ) (before : ℕ) → HasNoLineFeed line → has_bare_line_feed before (line ++ (13 ∷ 10 ∷ rest)) ≡ has_bare_line_feed 10 rest
line_is_not_bare [] rest before none = refl
line_is_not_bare (b ∷ line) rest before none =
    ap (λ t. (t && not (before == 13)) || has_bare_line_feed b (line ++ (13 ∷ 10 ∷ rest))) (All-head (λ c. (c == 10) ≡ false) b line none)
    ∙ line_is_not_bare line rest b (All-tail (λ c. (c == 10) ≡ false) b line none)

-- one line more
pub add_line : (xs line : List ℕ) → IsLines xs → HasNoLineFeed line → 0 < length line → IsLines (xs ++ (line ++ crlf))
add_line xs line lines none some = record {
  none = line_has_no_head xs line lines.none none some;
  bare = λ rest.
      ap (has_bare_line_feed 10) (append_assoc xs (line ++ crlf) rest ∙ ap (λ l. xs ++ l) (append_assoc line crlf rest))
      ∙ lines.bare (line ++ (13 ∷ 10 ∷ rest)) ∙ line_is_not_bare line rest 10 none;
}

-- one line more, where the value isn't empty
pub add_value : (xs name value : List ℕ) → IsLines xs → HasNoLineFeed (name ++ 58 ∷ 32 ∷ []) → HasNoLineFeed value → IsLines (xs ++ value_line name value)
add_value xs name [] lines names values = subst IsLines (sym (append-nil xs)) lines
add_value xs name (b ∷ value) lines names values =
    let line = (name ++ 58 ∷ 32 ∷ []) ++ b ∷ value in
    add_line xs line lines (All-append (λ (c : ℕ). (c == 10) ≡ false) (name ++ 58 ∷ 32 ∷ []) (b ∷ value) names values) (omega (arith, length-append (name ++ 58 ∷ 32 ∷ []) (b ∷ value)))

at_start : (xs : List ℕ) → has_bare_line_feed 0 xs ≡ has_bare_line_feed 10 xs
at_start [] = refl
at_start (b ∷ xs) = refl

-- the empty line behind lines ends a head
pub lines_are_head : (xs front : List ℕ) → IsLines xs → xs ≡ front ++ crlf → IsHead (xs ++ crlf) × (has_bare_line_feed 0 (xs ++ crlf) ≡ false)
lines_are_head xs front lines is = (
  record {
    front = front;
    is = ap (λ x. x ++ crlf) is ∙ append_assoc front crlf crlf;
    first = subst HasNoHead (ap (λ x. x ++ 13 ∷ []) is ∙ append_assoc front crlf (13 ∷ []))
        (none_within (13 ∷ []) xs lines.none (All-cons (λ (b : ℕ). (b == 10) ≡ false) 13 [] refl (All-nil (λ (b : ℕ). (b == 10) ≡ false))));
  },
  at_start (xs ++ crlf) ∙ lines.bare crlf,
)
