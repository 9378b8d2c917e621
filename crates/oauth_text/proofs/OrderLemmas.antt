-- Escaped texts stand in byte order as the ranks of their bytes do.
use Rattle.std.proofs.Common.{◌≡◌, ◌<◌, ◌≤◌, ℕ, suc, ◌+◌, ◌/◌, ◌%◌, min, Bool, true, false, cond, List, [], ◌∷◌, ◌++◌, get_or, drop, length, refl, sym, ap, ◌∙◌, arith, Less, Equal, Greater, Ordering, nat_cmp, length-drop, add-one}
use Rattle.std.specs.Ordering.{ordering_then, ordering_reverse, MatchOrdering}
use Rattle.std.specs.Cmp.{ranks}
use Rattle.std.specs.Cmp.Lexicographic.{slice_cmp, nat_list_cmp_total}
use Rattle.std.specs.Fmt.{digit_glyph}
use Rattle.std.proofs.lemmas.Bool.{agree_below_at, false≢true}
use Rattle.std.proofs.lemmas.Bool.Decides.{nat_tests}
use Rattle.std.proofs.Math.Seq.{drop-cons}
use Rattle.oauth_text.specs.Escape.{is_unreserved, escape_byte, rank, escape}

below_by : (x y : ℕ) (r : Ordering) → MatchOrdering r (x < y) (x ≡ y) (y < x) → x < y → r ≡ Less
below_by x y Less h l = refl
below_by x y Equal h l = let e : x ≡ y = h in absurd (omega arith)
below_by x y Greater h l = let e : y < x = h in absurd (omega arith)

below : (x y : ℕ) → x < y → nat_cmp x y ≡ Less
below x y = below_by x y _ (ranks x y)

level_by : (x : ℕ) (r : Ordering) → MatchOrdering r (x < x) (x ≡ x) (x < x) → r ≡ Equal
level_by x Less h = let e : x < x = h in absurd (omega arith)
level_by x Equal h = refl
level_by x Greater h = let e : x < x = h in absurd (omega arith)

level : (x : ℕ) → nat_cmp x x ≡ Equal
level x = level_by x _ (ranks x x)

above_by : (x y : ℕ) (r : Ordering) → MatchOrdering r (x < y) (x ≡ y) (y < x) → y < x → r ≡ Greater
above_by x y Less h l = let e : x < y = h in absurd (omega arith)
above_by x y Equal h l = let e : x ≡ y = h in absurd (omega arith)
above_by x y Greater h l = refl

above : (x y : ℕ) → y < x → nat_cmp x y ≡ Greater
above x y = above_by x y _ (ranks x y)

-- a first element that is less decides, and equal ones don't
first_below : (x y : ℕ) (xs ys : List ℕ) → x < y → slice_cmp nat_cmp (x ∷ xs) (y ∷ ys) ≡ Less
first_below x y xs ys l = ap (λ r. ordering_then r (slice_cmp nat_cmp xs ys)) (below x y l)

first_alike : (x : ℕ) (xs ys : List ℕ) → slice_cmp nat_cmp (x ∷ xs) (x ∷ ys) ≡ slice_cmp nat_cmp xs ys
first_alike x xs ys = ap (λ r. ordering_then r (slice_cmp nat_cmp xs ys)) (level x)

front_alike : (zs xs ys : List ℕ) → slice_cmp nat_cmp (zs ++ xs) (zs ++ ys) ≡ slice_cmp nat_cmp xs ys
front_alike [] xs ys = refl
front_alike (z ∷ zs) xs ys = first_alike z (zs ++ xs) (zs ++ ys) ∙ front_alike zs xs ys

-- digits rise
glyph_below : (c d : ℕ) → c < d → d < 16 → digit_glyph true c < digit_glyph true d
glyph_below c d less small = grind (arith, nat_tests)

-- no byte up to `%` is unreserved
unreserved_high : (b : ℕ) → is_unreserved b ≡ true → 37 < b
unreserved_high b so =
    let low : b < 38 → 1 ≤ 0 = λ within. absurd (false≢true (sym (agree_below_at is_unreserved (λ _. false) 38 b refl within) ∙ so)) in
    grind (arith, low)

-- the escape of a reserved byte
abbrev spelt : ℕ → List ℕ
spelt b = 37 ∷ digit_glyph true (b / 16) ∷ digit_glyph true (b % 16) ∷ []

low_digits : (h : ℕ) (a b : ℕ) (xs ys : List ℕ) → a < b → b < 16 → slice_cmp nat_cmp (37 ∷ h ∷ digit_glyph true a ∷ xs) (37 ∷ h ∷ digit_glyph true b ∷ ys) ≡ Less
low_digits h a b xs ys less small =
    first_alike 37 (h ∷ digit_glyph true a ∷ xs) (h ∷ digit_glyph true b ∷ ys)
    ∙ first_alike h (digit_glyph true a ∷ xs) (digit_glyph true b ∷ ys)
    ∙ first_below (digit_glyph true a) (digit_glyph true b) xs ys (glyph_below a b less small)

spelt_by : (a b : ℕ) (xs ys : List ℕ) → a < b → b < 256 → (r : Ordering) → MatchOrdering r (a / 16 < b / 16) (a / 16 ≡ b / 16) (b / 16 < a / 16) → slice_cmp nat_cmp (spelt a ++ xs) (spelt b ++ ys) ≡ Less
spelt_by a b xs ys less small Less h =
    let e : a / 16 < b / 16 = h in
    let rest = digit_glyph true (a % 16) ∷ xs in
    let rest' = digit_glyph true (b % 16) ∷ ys in
    first_alike 37 (digit_glyph true (a / 16) ∷ rest) (digit_glyph true (b / 16) ∷ rest')
    ∙ first_below (digit_glyph true (a / 16)) (digit_glyph true (b / 16)) rest rest' (glyph_below (a / 16) (b / 16) e (omega arith))
spelt_by a b xs ys less small Equal h =
    let e : a / 16 ≡ b / 16 = h in
    ap (λ d. slice_cmp nat_cmp (37 ∷ digit_glyph true d ∷ digit_glyph true (a % 16) ∷ xs) (spelt b ++ ys)) e
    ∙ low_digits (digit_glyph true (b / 16)) (a % 16) (b % 16) xs ys (omega arith) (omega arith)
spelt_by a b xs ys less small Greater h = let e : b / 16 < a / 16 = h in absurd (omega arith)

escapes_by : (a b : ℕ) (s t : Bool) (xs ys : List ℕ) → (t ≡ true → 37 < b) → a < 256 → b < 256 → cond s (256 + a) a < cond t (256 + b) b → slice_cmp nat_cmp (cond s (a ∷ []) (spelt a) ++ xs) (cond t (b ∷ []) (spelt b) ++ ys) ≡ Less
escapes_by a b true true xs ys high small small' less = let l : 256 + a < 256 + b = less in first_below a b xs ys (omega arith)
escapes_by a b true false xs ys high small small' less = let l : 256 + a < b = less in absurd (omega arith)
escapes_by a b false true xs ys high small small' less =
    first_below 37 b (digit_glyph true (a / 16) ∷ digit_glyph true (a % 16) ∷ xs) ys (high refl)
escapes_by a b false false xs ys high small small' less = spelt_by a b xs ys less small' _ (ranks (a / 16) (b / 16))

escapes_below : (a b : ℕ) (xs ys : List ℕ) → a < 256 → b < 256 → rank a < rank b → slice_cmp nat_cmp (escape_byte a ++ xs) (escape_byte b ++ ys) ≡ Less
escapes_below a b xs ys small small' less =
    escapes_by a b (is_unreserved a) (is_unreserved b) xs ys (unreserved_high b) small small' less

rank_once : (a b : ℕ) (s t : Bool) → a < 256 → b < 256 → cond s (256 + a) a ≡ cond t (256 + b) b → a ≡ b
rank_once a b true true small small' e = let l : 256 + a ≡ 256 + b = e in omega arith
rank_once a b true false small small' e = let l : 256 + a ≡ b = e in absurd (omega arith)
rank_once a b false true small small' e = let l : a ≡ 256 + b = e in absurd (omega arith)
rank_once a b false false small small' e = e

-- different bytes' escapes stand as their ranks do, whatever follows them
escapes_apart_by : (a b : ℕ) (xs ys : List ℕ) → a < 256 → b < 256 → (a ≡ b → ⊥) → (r : Ordering) → MatchOrdering r (rank a < rank b) (rank a ≡ rank b) (rank b < rank a) → r ≡ slice_cmp nat_cmp (escape_byte a ++ xs) (escape_byte b ++ ys)
escapes_apart_by a b xs ys small small' apart Less h = sym (escapes_below a b xs ys small small' h)
escapes_apart_by a b xs ys small small' apart Equal h = absurd (apart (rank_once a b (is_unreserved a) (is_unreserved b) small small' h))
escapes_apart_by a b xs ys small small' apart Greater h =
    sym (nat_list_cmp_total.antisymm (escape_byte a ++ xs) (escape_byte b ++ ys) ∙ ap ordering_reverse (escapes_below b a ys xs small' small h))

-- texts of which one has ended stand as their lengths do
escape_front : (b : ℕ) (t : Bool) (xs : List ℕ) → slice_cmp nat_cmp [] (cond t (b ∷ []) (spelt b) ++ xs) ≡ Less
escape_front b true xs = refl
escape_front b false xs = refl

escape_behind : (b : ℕ) (t : Bool) (xs : List ℕ) → slice_cmp nat_cmp (cond t (b ∷ []) (spelt b) ++ xs) [] ≡ Greater
escape_behind b true xs = refl
escape_behind b false xs = refl

ended_by : (n : ℕ) (xs ys : List ℕ) → min (length xs) (length ys) ≡ 0 → nat_cmp (n + length xs) (n + length ys) ≡ slice_cmp nat_cmp (escape xs) (escape ys)
unfolding escape
ended_by n [] [] e = level (n + 0)
ended_by n [] (y ∷ ys) e = below (n + 0) (n + suc (length ys)) (omega arith) ∙ sym (escape_front y (is_unreserved y) (escape ys))
ended_by n (x ∷ xs) [] e = above (n + suc (length xs)) (n + 0) (omega arith) ∙ sym (escape_behind x (is_unreserved x) (escape xs))
ended_by n (x ∷ xs) (y ∷ ys) e = absurd (omega arith)

-- what is left of two texts, one place on: where the bytes are equal, where they differ, and at an end
pub alike_there : (xs ys : List ℕ) (i : ℕ) → i < length xs → i < length ys → get_or xs i 0 ≡ get_or ys i 0 → slice_cmp nat_cmp (escape (drop i xs)) (escape (drop i ys)) ≡ slice_cmp nat_cmp (escape (drop (i + 1) xs)) (escape (drop (i + 1) ys))
unfolding escape
alike_there xs ys i within within' same =
    rw (add-one, drop-cons xs i 0, drop-cons ys i 0, same) (front_alike (escape_byte (get_or ys i 0)) _ _)

pub apart_there : (xs ys : List ℕ) (i : ℕ) → i < length xs → i < length ys → get_or xs i 0 < 256 → get_or ys i 0 < 256 → (get_or xs i 0 ≡ get_or ys i 0 → ⊥) → nat_cmp (rank (get_or xs i 0)) (rank (get_or ys i 0)) ≡ slice_cmp nat_cmp (escape (drop i xs)) (escape (drop i ys))
unfolding escape
apart_there xs ys i within within' small small' apart =
    rw (drop-cons xs i 0, drop-cons ys i 0)
    (escapes_apart_by (get_or xs i 0) (get_or ys i 0) _ _ small small' apart _ (ranks (rank (get_or xs i 0)) (rank (get_or ys i 0))))

pub ended_there : (xs ys : List ℕ) (i : ℕ) → i ≡ min (length xs) (length ys) → nat_cmp (length xs) (length ys) ≡ slice_cmp nat_cmp (escape (drop i xs)) (escape (drop i ys))
ended_there xs ys i at =
    let left : min (length (drop i xs)) (length (drop i ys)) ≡ 0 = omega (arith, length-drop i xs, length-drop i ys) in
    let one : i + length (drop i xs) ≡ length xs = omega (arith, length-drop i xs) in
    let other : i + length (drop i ys) ≡ length ys = omega (arith, length-drop i ys) in
    sym (λ j. nat_cmp (one j) (other j)) ∙ ended_by i (drop i xs) (drop i ys) left
