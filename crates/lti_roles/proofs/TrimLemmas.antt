-- Texts without spaces at their ends.
use Rattle.std.proofs.Common.{◌≡◌, ℕ, ◌-◌, ◌==◌, Bool, true, false, cond, List, [], ◌∷◌, ◌++◌, length, take, drop, reverse, Option, None, Some, refl, sym, ap, ◌∙◌, arith, lit<, take-append-drop}
use Rattle.std.specs.Option.{IfSome}
use Rattle.std.specs.Str.Pattern.{HasCharAt, FindsCharPrefix, FindsCharSuffix, CutsPrefixes, CutsSuffixes, IsTrimStartMatches, IsTrimEndMatches}
use Rattle.std.proofs.lemmas.Bool.{cond-false, cond_both, false_from_ne_true, eqb-true}
use Rattle.std.proofs.lemmas.List.{reverse-append, reverse-reverse}
use Rattle.std.proofs.lemmas.Str.{encode_ascii}
use Rattle.std.proofs.lemmas.Str.Pattern.{drop_at_char}
use Rattle.lti_roles.specs.Elements.{trim_front, trim_end, trimmed}

-- ---- what the calls that trim a text leave

-- a space in front goes
front_goes : (m : List ℕ) (n : ℕ) → HasCharAt 32 m 0 n → trim_front m ≡ trim_front (drop n m)
front_goes m n at = ap trim_front (drop_at_char 32 m 0 n at (lit< tt))

cut_front : (s ns r : List ℕ) → CutsPrefixes (FindsCharPrefix 32) s ns r → trim_front s ≡ trim_front r
cut_front s [] r is = ap trim_front (sym is)
cut_front s (n ∷ ns) r (m, before, at, is) = cut_front s ns m before ∙ front_goes m n at ∙ ap trim_front (sym is)

-- and nothing else
front_stays : (r : List ℕ) (o : Option ℕ) → FindsCharPrefix 32 r o → IfSome o (λ n. n ≡ 0) → trim_front r ≡ r
front_stays [] o found empty = refl
front_stays (b ∷ r) None lacks empty =
    cond-false (b == 32) (trim_front r) (b ∷ r) (false_from_ne_true (b == 32) (λ same. lacks r (ap (λ c. c ∷ r) (eqb-true b 32 same) ∙ ap (λ front. front ++ r) (sym (encode_ascii 32 (lit< tt))))))
front_stays (b ∷ r) (Some n) at empty = let ends : n ≡ 1 = at.ends in absurd (omega arith)

pub front_is : (s r : List ℕ) → IsTrimStartMatches (FindsCharPrefix 32) s r → r ≡ trim_front s
front_is s r ((ns, cut), (o, found, empty)) = sym (cut_front s ns r cut ∙ front_stays r o found empty)

-- a text that ends in a space
trim_end_space : (text : List ℕ) → trim_end (text ++ 32 ∷ []) ≡ trim_end text
trim_end_space text = ap (λ l. reverse (trim_front l)) (reverse-append text (32 ∷ []))

-- a space at the end goes
end_goes : (m : List ℕ) (n : ℕ) → HasCharAt 32 m (length m - n) (length m) → trim_end m ≡ trim_end (take (length m - n) m)
end_goes m n at =
    let last : drop (length m - n) m ≡ 32 ∷ drop (length m) m = drop_at_char 32 m (length m - n) (length m) at (lit< tt) in
    let whole : m ≡ take (length m - n) m ++ 32 ∷ [] = sym (take-append-drop (length m - n) m) ∙ ap (λ l. take (length m - n) m ++ l) (last ∙ ap (λ l. 32 ∷ l) (drop_whole m)) in
    ap trim_end whole ∙ trim_end_space (take (length m - n) m)
  where
    drop_whole : (l : List ℕ) → drop (length l) l ≡ []
    drop_whole [] = refl
    drop_whole (x ∷ l) = drop_whole l

cut_end : (s ns r : List ℕ) → CutsSuffixes (FindsCharSuffix 32) s ns r → trim_end s ≡ trim_end r
cut_end s [] r is = ap trim_end (sym is)
cut_end s (n ∷ ns) r (m, before, (len, at, on), is) = cut_end s ns m before ∙ end_goes m n at ∙ ap trim_end (sym is)

-- and nothing else
end_stays : (r back : List ℕ) → reverse r ≡ back → (o : Option ℕ) → FindsCharSuffix 32 r o → IfSome o (λ n. n ≡ 0) → trim_end r ≡ r
end_stays r [] is o found empty = ap (λ l. reverse (trim_front l)) is ∙ ap reverse (sym is) ∙ reverse-reverse r
end_stays r (b ∷ back) is None lacks empty =
    let whole : r ≡ reverse back ++ b ∷ [] = sym (reverse-reverse r) ∙ ap reverse is ∙ reverse-append (b ∷ []) back in
    let other : (b == 32) ≡ false = false_from_ne_true (b == 32) (λ same. lacks (reverse back)
    (whole ∙ ap (λ c. reverse back ++ c ∷ []) (eqb-true b 32 same) ∙ ap (λ end. reverse back ++ end) (sym (encode_ascii 32 (lit< tt))))) in
    ap (λ l. reverse (trim_front l)) is ∙ ap reverse (cond-false (b == 32) (trim_front back) (b ∷ back) other ∙ sym is) ∙ reverse-reverse r
end_stays r (b ∷ back) is (Some n) found empty = let len : n ≡ 1 = found.0 in absurd (omega arith)

pub end_is : (s r : List ℕ) → IsTrimEndMatches (FindsCharSuffix 32) s r → r ≡ trim_end s
end_is s r ((ns, cut), (o, found, empty)) = sym (cut_end s ns r cut ∙ end_stays r (reverse r) refl o found empty)

-- ---- trimming once is enough

trim_front_twice : (text : List ℕ) → trim_front (trim_front text) ≡ trim_front text
trim_front_twice [] = refl
trim_front_twice (b ∷ text) =
    cond_both (b == 32) (trim_front text) (b ∷ text) (λ l. trim_front l ≡ l)
    (λ _. trim_front_twice text)
    (λ other. cond-false (b == 32) (trim_front text) (b ∷ text) other)

trim_end_twice : (text : List ℕ) → trim_end (trim_end text) ≡ trim_end text
trim_end_twice text =
    ap (λ l. reverse (trim_front l)) (reverse-reverse (trim_front (reverse text)))
    ∙ ap reverse (trim_front_twice (reverse text))

-- a byte in front that is no space stays there
front_kept : (text : List ℕ) (b : ℕ) → (b == 32) ≡ false → trim_front (text ++ b ∷ []) ≡ trim_front text ++ b ∷ []
front_kept [] b other = cond-false (b == 32) [] (b ∷ []) other
front_kept (a ∷ text) b other = step (front_kept text b other) (a == 32)
  where
    step : trim_front (text ++ b ∷ []) ≡ trim_front text ++ b ∷ [] → (t : Bool) → cond t (trim_front (text ++ b ∷ [])) (a ∷ (text ++ b ∷ [])) ≡ cond t (trim_front text) (a ∷ text) ++ b ∷ []
    step rest true = rest
    step rest false = refl

trim_end_cons : (b : ℕ) (text : List ℕ) → (b == 32) ≡ false → trim_end (b ∷ text) ≡ b ∷ trim_end text
trim_end_cons b text other =
    ap (λ l. reverse (trim_front l)) (reverse-append (b ∷ []) text)
    ∙ ap reverse (front_kept (reverse text) b other)
    ∙ reverse-append (trim_front (reverse text)) (b ∷ [])

front_clean : (text : List ℕ) → trim_front (trim_end (trim_front text)) ≡ trim_end (trim_front text)
front_clean [] = refl
front_clean (b ∷ text) =
    cond_both (b == 32) (trim_front text) (b ∷ text) (λ l. trim_front (trim_end l) ≡ trim_end l)
    (λ _. front_clean text)
    (λ other. ap trim_front (trim_end_cons b text other) ∙ cond-false (b == 32) (trim_front (trim_end text)) (b ∷ trim_end text) other ∙ sym (trim_end_cons b text other))

pub trimmed_twice : (text : List ℕ) → trimmed (trimmed text) ≡ trimmed text
trimmed_twice text = ap trim_end (front_clean text) ∙ trim_end_twice (trim_front text)
