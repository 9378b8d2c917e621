-- One of several words.
use Rattle.std.proofs.Common.{◌≡◌, ℕ, zero, suc, Bor, ◌+◌, ◌<◌, ◌≤◌, ◌⊎◌, inl, inr, ⊎_elim, Bool, true, false, cond, not, ◌&&◌, ◌||◌, ◌==◌, List, [], ◌∷◌, ◌++◌, length, get_or, min, append_assoc, append-nil, refl, sym, ap, ◌∙◌, subst, arith}
use Rattle.std.specs.List.{list_all}
use Rattle.std.proofs.lemmas.Bool.{false≢true, cases_Bool, cases_lt}
use Rattle.std.proofs.lemmas.Bool.Decides.{nat_tests}
use Rattle.lti_outside.proofs.BoolLemmas.{and_split, or_split}
use Rattle.pox_outcomes.specs.Language.{Then, ◌▸◌, StopsAt, Reads, IsAmong, Any, IsOnce}
use Rattle.pox_outcomes.specs.Markup.{is_white, IsWhite, IsMarkup, IsOneOf, word_at, behind, begins_dark, is_plain, strip, first_of, rest_of, differ, are_words}
use Rattle.pox_outcomes.proofs.LanguageLemmas.{IsPrefixFree, Leads, after_leads, stops_either, stops_prefix, stops_same, left-le}
use Rattle.pox_outcomes.proofs.SequenceLemmas.{Some, some_then, then_second, parts_even, backs_even, parts_same, behind_once}
use Rattle.pox_outcomes.proofs.RunLemmas.{run_once}
use Rattle.pox_outcomes.proofs.MarkupLemmas.{at_test, plain_space, plain_byte, plain_rest, outside_markup, markup_one, not_true, free_markup}

-- none of the first sets was read, and `left` is the least that one of them left
abbrev pub IsTried : (ℕ → List ℕ → Type 0) → List ℕ → ℕ → ℕ → Type 0
IsTried A bytes at left = ((at ≡ 0) × (left ≡ length bytes)) ⊎ StopsAt (IsAmong A at) bytes left

one_more : (A : ℕ → List ℕ → Type 0) (at : ℕ) (x : List ℕ) → IsAmong A at x ⊎ A at x → IsAmong A (at + 1) x
one_more A at x (inl h) = (h.0, omega (arith, h.1), h.2)
one_more A at x (inr h) = (at, omega arith, h)

last_one : (A : ℕ → List ℕ → Type 0) (at place : ℕ) (x : List ℕ) → place < at + 1 → (place < at) ⊎ (at ≤ place) → A place x → IsAmong A at x ⊎ A at x
last_one A at place x most (inl h) is = inl (place, h, is)
last_one A at place x most (inr h) is =
    let same : place ≡ at = omega arith in
    inr (subst (λ (k : ℕ). A k x) same is)

one_less : (A : ℕ → List ℕ → Type 0) (at : ℕ) (x : List ℕ) → IsAmong A (at + 1) x → IsAmong A at x ⊎ A at x
one_less A at x h = last_one A at h.0 x h.1 (cases_lt h.0 at) h.2

-- another set was tried
pub tried_more : (A : ℕ → List ℕ → Type 0) (bytes : List ℕ) (at left n : ℕ) → StopsAt (A at) bytes n → IsTried A bytes at left → IsTried A bytes (at + 1) (min left n)
tried_more A bytes at left n s (inl h) =
    let most = left-le bytes n s in
    let none : at ≡ 0 = h.0 in
    let all : left ≡ length bytes = h.1 in
    let is : n ≡ min left n = omega arith in
    inr (subst (λ (k : ℕ). StopsAt (IsAmong A (at + 1)) bytes k) is
    (stops_same bytes n (λ x m. one_more A at x (inr m)) (λ x m. ⊎_elim (λ (h : IsAmong A at x). absurd (omega (arith, h.1))) (λ h. h) (one_less A at x m)) s))
tried_more A bytes at left n s (inr t) =
    inr (stops_same bytes (min left n) (λ x m. one_more A at x m) (λ x m. one_less A at x m) (stops_either bytes left n t s))

pub tried_all : (A : ℕ → List ℕ → Type 0) (bytes : List ℕ) (at left : ℕ) → 0 < at → IsTried A bytes at left → StopsAt (IsAmong A at) bytes left
tried_all A bytes at left some_tried (inl h) = absurd (omega (arith, h.0))
tried_all A bytes at left some_tried (inr s) = s

pub plain_at : (words : List (List ℕ)) (at : ℕ) → list_all is_plain words ≡ true → is_plain (word_at words at) ≡ true
plain_at [] at all = refl
plain_at (word ∷ words) zero all = (and_split (is_plain word) (list_all is_plain words) all).0
plain_at (word ∷ words) (suc at) all = plain_at words at (and_split (is_plain word) (list_all is_plain words) all).1

-- the word behind the reference at a place
pub behind_at : (words : List (Bor (List ℕ))) (at : ℕ) → (get_or words at (record { ref_ptr = (0, 0); now = [] })).now ≡ word_at (behind words) at
behind_at [] at = refl
behind_at (word ∷ words) zero = refl
behind_at (word ∷ words) (suc at) = behind_at words at

pub length_behind : (words : List (Bor (List ℕ))) → length (behind words) ≡ length words
length_behind [] = refl
length_behind (word ∷ words) = ap suc (length_behind words)

-- ---- words that don't begin alike

-- no string of one begins a string of the other, or the other way round
abbrev pub IsApart : (List ℕ → Type 0) → (List ℕ → Type 0) → Type 0
IsApart A B = (x y r s : List ℕ) → A x → B y → x ++ r ≡ y ++ s → ⊥

apart_space : (b c : ℕ) (m n x y r s : List ℕ) → (b == 32) ≡ true → is_plain (b ∷ m) ≡ true → is_plain (c ∷ n) ≡ true → IsApart (IsMarkup m) (IsMarkup (strip (c ∷ n)))
    → IsMarkup (b ∷ m) x → IsMarkup (c ∷ n) y → x ++ r ≡ y ++ s → ⊥
apart_space b c m n x y r s space plain other apart a d e =
    let white : IsWhite a.front = subst (λ t. at_test t b a.front) space a.first in
    let oa = outside_markup m a.back (plain_space b m space plain) a.second in
    let ea : x ++ r ≡ a.front ++ oa.0 ∷ (oa.1 ++ r) = ap (λ t. t ++ r) (a.are ∙ ap (λ t. a.front ++ t) oa.2) ∙ append_assoc a.front (oa.0 ∷ oa.1) r in
    let back : oa.0 ∷ (oa.1 ++ r) ≡ a.back ++ r = ap (λ t. t ++ r) (sym oa.2) in
    ⊎_elim
    (λ h.
    let white_too : IsWhite d.front = subst (λ t. at_test t c d.front) h d.first in
    let od = outside_markup n d.back (plain_space c n h other) d.second in
    let ed : y ++ s ≡ d.front ++ od.0 ∷ (od.1 ++ s) = ap (λ t. t ++ s) (d.are ∙ ap (λ t. d.front ++ t) od.2) ∙ append_assoc d.front (od.0 ∷ od.1) s in
    let once = run_once is_white a.front d.front oa.0 od.0 (oa.1 ++ r) (od.1 ++ s) white white_too oa.3 od.3 (sym ea ∙ e ∙ ed) in
    let stripped : strip (c ∷ n) ≡ n = rw h refl in
    apart a.back d.back r s a.second (subst (λ t. IsMarkup t d.back) (sym stripped) d.second) (sym back ∙ once.1 ∙ ap (λ t. t ++ s) (sym od.2)))
    (λ h.
    let byte : d.front ≡ c ∷ [] = subst (λ t. at_test t c d.front) h d.first in
    let ed : y ++ s ≡ [] ++ c ∷ (d.back ++ s) = ap (λ t. t ++ s) (d.are ∙ ap (λ t. t ++ d.back) byte) in
    let once = run_once is_white a.front [] oa.0 c (oa.1 ++ r) (d.back ++ s) white refl oa.3 (plain_byte c n h other) (sym ea ∙ e ∙ ed) in
    let stripped : strip (c ∷ n) ≡ c ∷ n = rw h refl in
    apart a.back y r s a.second (subst (λ t. IsMarkup t y) (sym stripped) d) (sym back ∙ once.1 ∙ sym ed))
    (cases_Bool (c == 32))

-- a byte stands in front of the string
front_byte : (b : ℕ) (m x r : List ℕ) → (b == 32) ≡ false → IsMarkup (b ∷ m) x → (t : List ℕ) × (x ≡ b ∷ t) × IsMarkup m t
front_byte b m x r other a =
    let byte : a.front ≡ b ∷ [] = subst (λ t. at_test t b a.front) other a.first in
    (a.back, a.are ∙ ap (λ t. t ++ a.back) byte, a.second)

-- what stands behind a space of the markup, where the bytes go on with one that isn't white
stripped_string : (n y s : List ℕ) (b : ℕ) (t : List ℕ) → is_plain n ≡ true → is_white b ≡ false → IsMarkup n y → b ∷ t ≡ y ++ s → IsMarkup (strip n) y
stripped_string [] y s b t plain dark d e = d
stripped_string (c ∷ n) y s b t plain dark d e =
    ⊎_elim
    (λ h.
    let white : IsWhite d.front = subst (λ t. at_test t c d.front) h d.first in
    let od = outside_markup n d.back (plain_space c n h plain) d.second in
    let ed : y ++ s ≡ d.front ++ od.0 ∷ (od.1 ++ s) = ap (λ t. t ++ s) (d.are ∙ ap (λ t. d.front ++ t) od.2) ∙ append_assoc d.front (od.0 ∷ od.1) s in
    let once = run_once is_white [] d.front b od.0 t (od.1 ++ s) refl white dark od.3 (e ∙ ed) in
    let stripped : strip (c ∷ n) ≡ n = rw h refl in
    let same : d.back ≡ y = sym (d.are ∙ ap (λ t. t ++ d.back) (sym once.0)) in
    subst (λ t. IsMarkup t y) (sym stripped) (subst (IsMarkup n) same d.second))
    (λ h. let stripped : strip (c ∷ n) ≡ c ∷ n = rw h refl in subst (λ t. IsMarkup t y) (sym stripped) d)
    (cases_Bool (c == 32))

-- the first byte of a stripped markup's string
head_byte : (k y s : List ℕ) (b : ℕ) (t : List ℕ) → (length k == 0) ≡ false → (is_head : (first_of k == 32) ≡ false) → IsMarkup k y → b ∷ t ≡ y ++ s → (b ≡ first_of k) × (z : List ℕ) × (t ≡ z ++ s) × IsMarkup (rest_of k) z
head_byte [] y s b t long is_head d e = absurd (cc)
head_byte (c ∷ k) y s b t long is_head d e =
    let front = front_byte c k y [] is_head d in
    let whole : b ∷ t ≡ c ∷ (front.0 ++ s) = e ∙ ap (λ t. t ++ s) front.1 in
    let head : b ≡ c = cc in
    let tail : t ≡ front.0 ++ s = cc in
    (head, front.0, tail, front.2)

plain_strip : (n : List ℕ) → is_plain n ≡ true → is_plain (strip n) ≡ true
plain_strip [] plain = refl
plain_strip (c ∷ n) plain =
    ⊎_elim
    (λ h. let stripped : strip (c ∷ n) ≡ n = rw h refl in subst (λ t. is_plain t ≡ true) (sym stripped) (plain_rest c n plain))
    (λ h. let stripped : strip (c ∷ n) ≡ c ∷ n = rw h refl in subst (λ t. is_plain t ≡ true) (sym stripped) plain)
    (cases_Bool (c == 32))

plain_rest_of : (n : List ℕ) → is_plain n ≡ true → is_plain (rest_of n) ≡ true
plain_rest_of [] plain = refl
plain_rest_of (c ∷ n) plain = plain_rest c n plain

dark_begin : (n : List ℕ) → begins_dark n ≡ true → (first_of n == 32) ≡ false
dark_begin [] dark = absurd (false≢true dark)
dark_begin (b ∷ n) dark = ⊎_elim (λ h. absurd (false≢true (sym (not_true (is_white b) dark) ∙ rw h refl))) (λ h. h) (cases_Bool (b == 32))

-- a stripped markup begins with no space
strip_head : (n : List ℕ) → is_plain n ≡ true → (first_of (strip n) == 32) ≡ false
strip_head [] plain = refl
strip_head (c ∷ n) plain =
    ⊎_elim
    (λ h. let stripped : strip (c ∷ n) ≡ n = rw h refl in subst (λ t. (first_of t == 32) ≡ false) (sym stripped) (dark_begin n (plain_space c n h plain)))
    (λ h. let stripped : strip (c ∷ n) ≡ c ∷ n = rw h refl in subst (λ t. (first_of t == 32) ≡ false) (sym stripped) h)
    (cases_Bool (c == 32))

byte_differs : (b c : ℕ) → not (b == c) ≡ true → b ≡ c → ⊥
byte_differs b c e same = grind (arith, nat_tests)

-- the test at a byte
abbrev test_at : Bool → ℕ → List ℕ → List ℕ → Bool
test_at t b m n =
    (not t && not (length (strip n) == 0) && not (b == first_of (strip n)))
    || ((t || not (length (strip n) == 0)) && differ m (cond t (strip n) (rest_of (strip n))))

differ_space : (b : ℕ) (m n : List ℕ) → (b == 32) ≡ true → differ (b ∷ m) n ≡ true → differ m (strip n) ≡ true
differ_space b m n space differs = subst (λ (t : Bool). test_at t b m n ≡ true) space differs

differ_byte : (b : ℕ) (m n : List ℕ) → (b == 32) ≡ false → differ (b ∷ m) n ≡ true → (not (length (strip n) == 0) ≡ true) × ((not (b == first_of (strip n)) ≡ true) ⊎ (differ m (rest_of (strip n)) ≡ true))
differ_byte b m n other differs =
    let L = not (length (strip n) == 0) in
    let N = not (b == first_of (strip n)) in
    let D = differ m (rest_of (strip n)) in
    let at : ((L && N) || (L && D)) ≡ true = subst (λ (t : Bool). test_at t b m n ≡ true) other differs in
    ⊎_elim (λ h. let both = and_split L N h in (both.0, inl both.1)) (λ h. let both = and_split L D h in (both.0, inr both.1)) (or_split (L && N) (L && D) at)

-- markups that differ have no common front that is a string of one of them
pub apart_markups : (m n : List ℕ) → differ m n ≡ true → is_plain m ≡ true → is_plain n ≡ true → IsApart (IsMarkup m) (IsMarkup n)
apart_markups [] n differs plain other = absurd (false≢true differs)
apart_markups (b ∷ m) n differs plain other =
    ⊎_elim
    (λ h.
    let goes : differ m (strip n) ≡ true = differ_space b m n h differs in
    let rest = apart_markups m (strip n) goes (plain_rest b m plain) (plain_strip n other) in
    behind_space b m n h plain other rest)
    (λ h.
    let both = differ_byte b m n h differs in
    λ x y r s a d e.
    let front = front_byte b m x r h a in
    let whole : b ∷ (front.0 ++ r) ≡ y ++ s = ap (λ t. t ++ r) (sym front.1) ∙ e in
    let there = stripped_string n y s b (front.0 ++ r) other (plain_byte b m h plain) d whole in
    let head = head_byte (strip n) y s b (front.0 ++ r) (not_true (length (strip n) == 0) both.0) (strip_head n other) there whole in
    ⊎_elim
    (λ g. byte_differs b (first_of (strip n)) g head.0)
    (λ g. apart_markups m (rest_of (strip n)) g (plain_rest b m plain) (plain_rest_of (strip n) (plain_strip n other)) front.0 head.1 r s front.2 head.3 head.2)
    both.1)
    (cases_Bool (b == 32))
  where
    behind_space : (b : ℕ) (m n : List ℕ) → (b == 32) ≡ true → is_plain (b ∷ m) ≡ true → is_plain n ≡ true → IsApart (IsMarkup m) (IsMarkup (strip n)) → IsApart (IsMarkup (b ∷ m)) (IsMarkup n)
    behind_space b m [] space plain other apart = λ x y r s a d e. let one = markup_one m in apart one.0 [] [] one.0 one.1 refl (append-nil one.0)
    behind_space b m (c ∷ n) space plain other apart = λ x y r s a d e. apart_space b c m n x y r s space plain other apart a d e

-- ---- a choice, and what stands behind it

-- strings of the first sets begin no other, and are of one set
abbrev pub IsCode : (ℕ → List ℕ → Type 0) → ℕ → Type 0
IsCode A most = (i j : ℕ) → i < most → j < most → (x y r s : List ℕ) → A i x → A j y → x ++ r ≡ y ++ s → (i ≡ j) × (x ≡ y)

differs_at : (word : List ℕ) (words : List (List ℕ)) (j : ℕ) → j < length words → list_all (λ other. differ word other) words ≡ true → differ word (word_at words j) ≡ true
differs_at word [] j within all = absurd (omega arith)
differs_at word (other ∷ words) zero within all = (and_split (differ word other) (list_all (λ other. differ word other) words) all).0
differs_at word (other ∷ words) (suc j) within all =
    differs_at word words j (omega arith) (and_split (differ word other) (list_all (λ other. differ word other) words) all).1

pub words_plain : (words : List (List ℕ)) → are_words words ≡ true → list_all is_plain words ≡ true
words_plain [] all = refl
words_plain (word ∷ words) all =
    let both = and_split (is_plain word && list_all (λ other. differ word other) words) (are_words words) all in
    rw ((and_split (is_plain word) (list_all (λ other. differ word other) words) both.0).0, words_plain words both.1) refl

-- words that differ are a code
pub code_words : (words : List (List ℕ)) → are_words words ≡ true → IsCode (λ place. IsMarkup (word_at words place)) (length words)
code_words [] all i j li lj x y r s a d e = absurd (omega arith)
code_words (word ∷ words) all zero zero li lj x y r s a d e =
    let both = and_split (is_plain word && list_all (λ other. differ word other) words) (are_words words) all in
    (refl, free_markup word (and_split (is_plain word) (list_all (λ other. differ word other) words) both.0).0 x y r s a d e)
code_words (word ∷ words) all zero (suc j) li lj x y r s a d e =
    let both = and_split (is_plain word && list_all (λ other. differ word other) words) (are_words words) all in
    let first = and_split (is_plain word) (list_all (λ other. differ word other) words) both.0 in
    absurd (apart_markups word (word_at words j) (differs_at word words j (omega arith) first.1) first.0 (plain_at words j (words_plain words both.1)) x y r s a d e)
code_words (word ∷ words) all (suc i) zero li lj x y r s a d e =
    let both = and_split (is_plain word && list_all (λ other. differ word other) words) (are_words words) all in
    let first = and_split (is_plain word) (list_all (λ other. differ word other) words) both.0 in
    absurd (apart_markups word (word_at words i) (differs_at word words i (omega arith) first.1) first.0 (plain_at words i (words_plain words both.1)) y x s r d a (sym e))
code_words (word ∷ words) all (suc i) (suc j) li lj x y r s a d e =
    let both = and_split (is_plain word && list_all (λ other. differ word other) words) (are_words words) all in
    let rest = code_words words both.1 i j (omega arith) (omega arith) x y r s a d e in
    (ap suc rest.0, rest.1)

-- one of the first sets, and what stands behind it
abbrev pub IsChoice : (ℕ → List ℕ → Type 0) → ℕ → (ℕ → List ℕ → Type 0) → List ℕ → Type 0
IsChoice A most B bytes = (place : ℕ) × (place < most) × Then (A place) (B place) bytes

same_place : (B : ℕ → List ℕ → Type 0) (i j : ℕ) (y : List ℕ) → i ≡ j → B i y → B j y
same_place B i j y e b = subst (λ (k : ℕ). B k y) e b

-- behind the set that was read
pub leads_choice : (A B : ℕ → List ℕ → Type 0) (most place : ℕ) (bytes rest : List ℕ) → IsCode A most → place < most → Reads (A place) bytes rest → Leads (IsChoice A most B) bytes (B place) rest
leads_choice A B most place bytes rest code within reads = after_leads bytes reads.front rest reads.are (record {
  into = λ y b. (place, within, record { front = reads.front; back = y; are = refl; first = reads.is; second = b });
  out = λ d r s l e.
      let t = l.2 in
      let e' : t.front ++ (t.back ++ r) ≡ reads.front ++ s = sym (append_assoc t.front t.back r) ∙ ap (λ t. t ++ r) (sym t.are) ∙ e in
      let same = code l.0 place l.1 within t.front reads.front (t.back ++ r) s t.first reads.is e' in
      (t.back, t.are ∙ ap (λ f. f ++ t.back) same.1, same_place B l.0 place t.back same.0 t.second);
})

-- a stop at the choice
pub stops_choice : (A B : ℕ → List ℕ → Type 0) (most : ℕ) (bytes : List ℕ) (n : ℕ) → ((place : ℕ) → place < most → (y : List ℕ) × B place y) → StopsAt (IsAmong A most) bytes n → StopsAt (IsChoice A most B) bytes n
stops_choice A B most bytes n one s =
    stops_prefix bytes n (λ x h. (h.2.front, h.2.back, h.2.are, (h.0, h.1, h.2.first)))
    (λ x a. let more = one a.0 a.1 in (more.0, (a.0, a.1, record { front = x; back = more.0; are = refl; first = a.2; second = more.1 }))) s

-- a choice is of one value where what stands behind each set is
pub choice_once : {V : Type 0} (A : ℕ → List ℕ → Type 0) (B : ℕ → V → List ℕ → Type 0) (most : ℕ) → IsCode A most → ((place : ℕ) → IsOnce (B place)) → IsOnce (λ v. IsChoice A most (λ place. B place v))
choice_once A B most code once v w x y r s a b e =
    let same = code a.0 b.0 a.1 b.1 a.2.front b.2.front (a.2.back ++ r) (b.2.back ++ s) a.2.first b.2.first (parts_even r s a.2 b.2 e) in
    let there : B b.0 v a.2.back = subst (λ (k : ℕ). B k v a.2.back) same.0 a.2.second in
    let next = once b.0 v w a.2.back b.2.back r s there b.2.second (backs_even r s a.2 b.2 same.1 e) in
    (next.0, parts_same a.2 b.2 same.1 next.1)

pub choice_free : (A B : ℕ → List ℕ → Type 0) (most : ℕ) → IsCode A most → ((place : ℕ) → IsPrefixFree (B place)) → IsPrefixFree (IsChoice A most B)
choice_free A B most code free x y r s a b e = (choice_once {V = Unit {0}} A (λ place u. B place) most code (λ place u v x y r s a b e. (refl, free place x y r s a b e)) tt tt x y r s a b e).1

-- ---- words of values

module _ {V : Type 0} (words : List (List ℕ)) (all : are_words words ≡ true) (place : V → ℕ) (value : ℕ → V) (back : (v : V) → value (place v) ≡ v) (within : (v : V) → place v < length words) (at : (k : ℕ) → k < length words → place (value k) ≡ k) where
  abbrev pub Coded : V → List ℕ → Type 0
  Coded v = IsMarkup (word_at words (place v))

  pub coded_once : IsOnce Coded
  coded_once v w x y r s a b e = let same = code_words words all (place v) (place w) (within v) (within w) x y r s a b e in (sym (back v) ∙ ap value same.0 ∙ back w, same.1)

  pub coded_stops : {bytes : List ℕ} {n : ℕ} → StopsAt (IsOneOf words (length words)) bytes n → StopsAt (Any Coded) bytes n
  coded_stops {bytes = bytes} {n = n} s =
      stops_same bytes n (λ x h. (value h.0, subst (λ (k : ℕ). IsMarkup (word_at words k) x) (sym (at h.0 h.1)) h.2)) (λ x h. (place h.0, within h.0, h.1)) s

-- ---- one of two words, and what stands behind each

-- a string of the set with nothing behind it
pub nothing_behind : {A : List ℕ → Type 0} (x : List ℕ) → A x → (A ▸ (λ y. y ≡ [])) x
nothing_behind x a = record { front = x; back = []; are = sym (append-nil x); first = a; second = refl }

pub only_front : {A : List ℕ → Type 0} (x : List ℕ) → (A ▸ (λ y. y ≡ [])) x → A x
only_front {A = A} x h = subst A (sym (h.are ∙ ap (λ t. h.front ++ t) h.second ∙ append-nil h.front)) h.first

module _ {V : Type 0} (words : List (List ℕ)) (all : are_words words ≡ true) (two : length words ≡ 2) (B C : V → List ℕ → Type 0) where
  abbrev pub Two : V → List ℕ → Type 0
  Two v x = (IsMarkup (word_at words 0) ▸ B v) x ⊎ (IsMarkup (word_at words 1) ▸ C v) x

  abbrev Words : ℕ → List ℕ → Type 0
  Words place = IsMarkup (word_at words place)

  abbrev Sides : ℕ → List ℕ → Type 0
  Sides zero = Any B
  Sides (suc place) = Any C

  code_two : IsCode Words 2
  code_two = subst (IsCode Words) two (code_words words all)

  to_two : (place : ℕ) (x : List ℕ) → place < 2 → Then (Words place) (Sides place) x → Any Two x
  to_two zero x within h = (h.second.0, inl (then_second h h.second.1))
  to_two (suc zero) x within h = (h.second.0, inr (then_second h h.second.1))
  to_two (suc (suc place)) x within h = absurd (omega arith)

  from_two : (v : V) (x : List ℕ) → Two v x → IsChoice Words 2 Sides x
  from_two v x (inl h) = (0, omega arith, then_second h (v, h.second))
  from_two v x (inr h) = (1, omega arith, then_second h (v, h.second))

  same_two : {bytes : List ℕ} {n : ℕ} → StopsAt (IsChoice Words 2 Sides) bytes n → StopsAt (Any Two) bytes n
  same_two {bytes = bytes} {n = n} s = stops_same bytes n (λ x h. to_two h.0 x h.1 h.2) (λ x h. from_two h.0 x h.1) s

  side_some : Some (Any B) → Some (Any C) → (place : ℕ) → Some (Sides place)
  side_some b c zero = b
  side_some b c (suc place) = c

  -- neither word
  pub two_here : Some (Any B) → Some (Any C) → {bytes : List ℕ} {n : ℕ} → StopsAt (IsOneOf words 2) bytes n → StopsAt (Any Two) bytes n
  two_here b c {bytes = bytes} {n = n} s = same_two (stops_choice Words Sides 2 bytes n (λ place within. side_some b c place) s)

  -- behind the first word, and behind the second
  pub two_first : {bytes rest : List ℕ} {n : ℕ} → Reads (IsMarkup (word_at words 0)) bytes rest → StopsAt (Any B) rest n → StopsAt (Any Two) bytes n
  two_first {bytes = bytes} {rest = rest} {n = n} r s = same_two ((leads_choice Words Sides 2 0 bytes rest code_two (omega arith) r).stops n s)

  pub two_second : {bytes rest : List ℕ} {n : ℕ} → Reads (IsMarkup (word_at words 1)) bytes rest → StopsAt (Any C) rest n → StopsAt (Any Two) bytes n
  two_second {bytes = bytes} {rest = rest} {n = n} r s = same_two ((leads_choice Words Sides 2 1 bytes rest code_two (omega arith) r).stops n s)

  pub two_some : Some (Any B) → Some (Any Two)
  two_some b = let t = some_then (markup_one (word_at words 0)) b in (t.0, to_two 0 t.0 (omega arith) t.1)

  pub two_once : IsOnce B → IsOnce C → IsOnce Two
  two_once b c v w x y r s (inl f) (inl g) e = behind_once (Words 0) B (λ x y r s a b e. (code_two 0 0 (omega arith) (omega arith) x y r s a b e).1) b v w x y r s f g e
  two_once b c v w x y r s (inl f) (inr g) e =
      let far = code_two 0 1 (omega arith) (omega arith) f.front g.front (f.back ++ r) (g.back ++ s) f.first g.first (parts_even r s f g e) in
      absurd (omega (arith, far.0))
  two_once b c v w x y r s (inr f) (inl g) e =
      let far = code_two 1 0 (omega arith) (omega arith) f.front g.front (f.back ++ r) (g.back ++ s) f.first g.first (parts_even r s f g e) in
      absurd (omega (arith, far.0))
  two_once b c v w x y r s (inr f) (inr g) e = behind_once (Words 1) C (λ x y r s a b e. (code_two 1 1 (omega arith) (omega arith) x y r s a b e).1) c v w x y r s f g e
