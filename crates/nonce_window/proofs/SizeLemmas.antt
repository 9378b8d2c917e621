-- How many bytes a digest has for the nonces that a window knows.
use Rattle.std.proofs.Common.{◌≡◌, ◌≤◌, ◌+◌, ◌/◌, ◌*◌, ℕ, suc, Bool, true, false, true≢false, ◌&&◌, not, cond, nat_le, Option, Some, None, IfSome, List, [], ◌∷◌, ◌++◌, length, map, filter, count_by, bytes_eq, refl, sym, ap, ◌∙◌, arith, is_eq}
use Rattle.std.specs.List.{list_any, sum_by}
use Rattle.std.specs.BTreeSet.{insert_key}
use Rattle.std.specs.Cmp.Lexicographic.{bytes_decides}
use Rattle.std.specs.Ordering.{eq_by_cmp, match_ordering}
use Rattle.std.specs.declared.cmp.Ordering.{Ordering}
use Rattle.std.specs.declared.cmp.Ordering.TheVariants.{Less, Equal, Greater}
use Rattle.std.proofs.lemmas.Bool.{cond-true, or_parts}
use Rattle.std.proofs.lemmas.Bool.Decides.{nat_tests}
use Rattle.std.proofs.lemmas.List.Elements.{filter-append}
use Rattle.std.proofs.lemmas.List.Sums.{sum_by-cons, sum_by-append}
use Rattle.lti_machine.specs.declared.entry.Entry.{Entry}
use Rattle.lti_machine.specs.Nonces.{stamp_of, is_signed, is_live, live}
use Rattle.lti_machine.specs.Used.{Used, used_of, used_cmp, lives, used, in_order}
use Rattle.lti_machine.proofs.LiveLemmas.{adds_one, stands_live, list_any-live, length-live-cons}
use Rattle.lti_machine.proofs.UsedLemmas.{is_used, contains-live}
use Rattle.std.specs.String.{string_bytes}
use Rattle.std.specs.declared.alloc.Global.{Global}
use Rattle.std.specs.declared.string.String.{String}
use Rattle.nonce_window.specs.Fresh.{is_fresh, IsKnown, IsNext}
use Rattle.nonce_window.specs.Last.{with_last}
use Rattle.nonce_window.specs.Minutes.{below, stamps_at}
use Rattle.nonce_window.specs.Nonces.{plain_in}
use Rattle.nonce_window.specs.Sizes.{used_size, entry_size, capped}
use Rattle.nonce_window.proofs.KnownLemmas.{count-cons}
use Rattle.nonce_window.proofs.SecondLemmas.{last, one}
use Rattle.nonce_window.proofs.WindowLemmas.{with_last_known, fresh_lives}

-- ---- a sum over keys in order

-- a key that isn't there adds what is its own
sum_inserted : {K : Type 0} (R : K → K → Ordering) (f : K → ℕ) (k : K) (ys : List K) → list_any (eq_by_cmp R k) ys ≡ false → sum_by f (insert_key R ys k) ≡ f k + sum_by f ys
sum_inserted R f k [] none = sum_by-cons f k []
sum_inserted R f k (y ∷ ys) none =
    let parts = or_parts (eq_by_cmp R k y) (list_any (eq_by_cmp R k) ys) none in
    by (R k y) refl parts.0 (sum_inserted R f k ys parts.1)
  where
    by : (r : Ordering) → R k y ≡ r → eq_by_cmp R k y ≡ false → sum_by f (insert_key R ys k) ≡ f k + sum_by f ys → sum_by f (match_ordering r (k ∷ y ∷ ys) (y ∷ ys) (y ∷ insert_key R ys k)) ≡ f k + sum_by f (y ∷ ys)
    by Less is other rest = sum_by-cons f k (y ∷ ys)
    by Equal is other rest = absurd (true≢false (sym (ap is_eq is) ∙ other))
    by Greater is other rest = omega (arith, sum_by-cons f y (insert_key R ys k), sum_by-cons f y ys, rest)

-- ---- what is live stands alone

and_le : (a b : Bool) → cond {A = ℕ} (a && b) 1 0 ≤ cond a 1 0
and_le true true = omega arith
and_le true false = omega arith
and_le false b = omega arith

live_le_count : (es : List Entry) (key : List ℕ) (now : ℕ) → length (live es key now) ≤ count_by (is_live key now) es
live_le_count [] key now = unfold live in omega arith
live_le_count (e ∷ es) key now =
    omega (arith, length-live-cons e es key now, count-cons (is_live key now) e es, and_le (is_live key now e) (not (stands_live es key now (stamp_of e))), live_le_count es key now)

-- each live entry of these has a stamp of its own
abbrev AreAlone : List Entry → ℕ → Type 0
AreAlone es now = (key : List ℕ) → length (live es key now) ≡ count_by (is_live key now) es

alone_tail : (e : Entry) (es : List Entry) (now : ℕ) → AreAlone (e ∷ es) now → AreAlone es now
alone_tail e es now alone key =
    omega (arith, alone key, length-live-cons e es key now, count-cons (is_live key now) e es, and_le (is_live key now e) (not (stands_live es key now (stamp_of e))), live_le_count es key now)

-- the first of them isn't among those after it
alone_head : (e : Entry) (es : List Entry) (now : ℕ) → AreAlone (e ∷ es) now → lives now e ≡ true → is_used (used_of e) (used es now) ≡ false
alone_head e es now alone is =
    sym (contains-live es now (used_of e))
    ∙ list_any-live es e.key now (stamp_of e)
    ∙ none (is_live e.key now e) (stands_live es e.key now (stamp_of e)) own
    (omega (arith, alone e.key, length-live-cons e es e.key now, count-cons (is_live e.key now) e es, live_le_count es e.key now))
  where
    own : is_live e.key now e ≡ true
    own = ap (λ b. (is_signed e && b) && nat_le (now / 60) (e.timestamp / 60 + 90)) ((bytes_decides e.key e.key).1 refl) ∙ both (is_signed e) (nat_le (now / 60) (e.timestamp / 60 + 90)) is
      where
        both : (a b : Bool) → (a && b) ≡ true → ((a && true) && b) ≡ true
        both true b h = h
        both false b h = h

    none : (a b : Bool) → a ≡ true → cond {A = ℕ} a 1 0 ≤ cond {A = ℕ} (a && not b) 1 0 → b ≡ false
    none a false is le = refl
    none true true is le = absurd (omega (arith, le))
    none false true is le = absurd (true≢false (sym is))

-- the bytes for the stamps, each once, are those for the entries
pub sum_used : (es : List Entry) (now : ℕ) → AreAlone es now → sum_by used_size (used es now) ≡ sum_by entry_size (filter (lives now) es)
unfolding in_order
sum_used [] now alone = refl
sum_used (e ∷ es) now alone = by (lives now e) refl (sum_used es now (alone_tail e es now alone))
  where
    by : (b : Bool) → lives now e ≡ b → sum_by used_size (used es now) ≡ sum_by entry_size (filter (lives now) es)
        → sum_by used_size (in_order used_cmp (map used_of (cond b (e ∷ filter (lives now) es) (filter (lives now) es)))) ≡ sum_by entry_size (cond b (e ∷ filter (lives now) es) (filter (lives now) es))
    by true is rest =
        sum_inserted used_cmp used_size (used_of e) (used es now) (alone_head e es now alone is)
        ∙ ap (λ n. entry_size e + n) rest
        ∙ sym (sum_by-cons entry_size e (filter (lives now) es))
    by false is rest = rest

-- ---- the tables and the last one

-- the seconds below the next number are one more where that one passes
pub seconds_sum : (p : ℕ → Bool) (each n : ℕ) → sum_by (λ _. each) (filter p (below (suc n))) ≡ sum_by (λ _. each) (filter p (below n)) + cond (p n) each 0
seconds_sum p each n =
    ap (sum_by (λ _. each)) (last p n)
    ∙ sum_by-append (λ _. each) (filter p (below n)) (one p n)
    ∙ ap (λ m. sum_by (λ _. each) (filter p (below n)) + m) (by (p n))
  where
    by : (b : Bool) → sum_by (λ _. each) (cond b (n ∷ []) []) ≡ cond b each 0
    by true = omega arith
    by false = refl

-- a nonce has the same size at each of its seconds
pub seconds_size : (key : List ℕ) (minute each : ℕ) (nonce : String Global) → ((timestamp : ℕ) → each ≡ capped (used_size (record { key = key; stamp = record { timestamp = timestamp; nonce = string_bytes nonce } })))
    → (seconds : List ℕ) → capped (sum_by (λ _. each) seconds) ≡ capped (sum_by entry_size (map (plain_in key minute) (stamps_at (nonce, seconds))))
seconds_size key minute each nonce is [] = refl
seconds_size key minute each nonce is (s ∷ ss) =
    let here = is (minute * 60 + s) in
    let rest = seconds_size key minute each nonce is ss in
    omega (arith, here, rest, sum_by-cons (λ _. each) s ss, sum_by-cons entry_size (plain_in key minute (record { timestamp = s; nonce = string_bytes nonce })) (map (plain_in key minute) (stamps_at (nonce, ss))))

pub last_size : (first : ℕ) (e : Entry) → first ≤ e.timestamp / 60 → sum_by entry_size (filter (λ x. nat_le first (x.timestamp / 60)) (e ∷ [])) ≡ entry_size e
last_size first e from =
    ap (sum_by entry_size) (cond-true (nat_le first (e.timestamp / 60)) (e ∷ []) [] (grind (arith, nat_tests))) ∙ sum_by-cons entry_size e [] ∙ omega arith

-- what is known, with the last one
pub known_size : (nonces : List Entry) (last : Option Entry) (high now : ℕ) → IsKnown nonces high → IfSome last (IsNext nonces high) → high ≤ now
    → sum_by entry_size (filter (is_fresh now) nonces) + sum_by entry_size (filter (is_fresh now) (with_last [] last)) ≡ sum_by used_size (used (with_last nonces last) now)
known_size nonces last high now is next h =
    joined last
    ∙ ap (sum_by entry_size) (fresh_lives (with_last nonces last) now all.signed)
    ∙ sym (sum_used (with_last nonces last) now (λ key. all.alone key now h))
  where
    all : IsKnown (with_last nonces last) high
    all = with_last_known nonces last high is next

    joined : (last : Option Entry) → sum_by entry_size (filter (is_fresh now) nonces) + sum_by entry_size (filter (is_fresh now) (with_last [] last)) ≡ sum_by entry_size (filter (is_fresh now) (with_last nonces last))
    joined None = omega arith
    joined (Some e) =
        sym (sum_by-append entry_size (filter (is_fresh now) nonces) (filter (is_fresh now) (e ∷ [])))
        ∙ ap (sum_by entry_size) (sym (filter-append (is_fresh now) nonces (e ∷ [])))
