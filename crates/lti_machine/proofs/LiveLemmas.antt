-- How many live stamps a list has: entry by entry, and by a count where nothing repeats.
use Rattle.std.proofs.Common.{max, ◌≡◌, ◌≤◌, ℕ, suc, ◌+◌, ◌/◌, nat_le, count_by, true≢false, Bool, true, false, cond, not, ◌&&◌, ◌||◌, ◌==◌, List, [], ◌∷◌, ◌++◌, length, refl, sym, ap, ◌∙◌, ⊎_elim, arith, bytes_eq, is_le}
use Rattle.std.specs.Cmp.{first_so, second_so}
use Rattle.std.specs.List.{list_any}
use Rattle.std.specs.Cmp.Lexicographic.{bytes_decides}
use Rattle.std.proofs.lemmas.Bool.{cond-true, cond-false, cond_both, cases_Bool, or_parts, or_from, false_from_ne_true}
use Rattle.std.proofs.lemmas.List.Folds.{list_any-append}
use Rattle.std.proofs.lemmas.List.Sums.{sum_by-cons}
use Rattle.std.proofs.lemmas.Bool.Decides.{nat_tests}
use Rattle.lti_machine.specs.declared.entry.Entry.{Entry}
use Rattle.lti_machine.specs.Nonces.{Stamp, stamp_cmp, same_stamp, stamp_of, is_live, insert_stamp, add_stamp, live, uses, stands, is_signed, is_of_key}
use Rattle.lti_machine.specs.Kept.{NoRepeats}
use Rattle.lti_machine.specs.Rules.{high}

-- a live entry of this key with this stamp stands in the list
abbrev pub stands_live : List Entry → List ℕ → ℕ → Stamp → Bool
stands_live entries key now stamp = list_any (λ e. is_live key now e && same_stamp stamp (stamp_of e)) entries

-- the entry is live, and no later one has its stamp
abbrev pub adds_one : Entry → List Entry → List ℕ → ℕ → Bool
adds_one e later key now = is_live key now e && not (stands_live later key now (stamp_of e))

pub length-insert_stamp : (s : Stamp) (ts : List Stamp) → length (insert_stamp s ts) ≡ length ts + 1
length-insert_stamp s [] = refl
length-insert_stamp s (t ∷ ts) =
    cond_both (is_le (stamp_cmp s t)) (s ∷ t ∷ ts) (t ∷ insert_stamp s ts) (λ x. length x ≡ suc (length ts) + 1)
    (λ _. omega arith)
    (λ _. omega (arith, length-insert_stamp s ts))

or_swap : (a b c : Bool) → (a || (b || c)) ≡ (b || (a || c))
or_swap true true c = refl
or_swap true false c = refl
or_swap false b c = refl

-- the stamp stands after an insert where it is the one put in, or stood before
pub list_any-insert_stamp : (s t : Stamp) (ts : List Stamp) → list_any (same_stamp s) (insert_stamp t ts) ≡ (same_stamp s t || list_any (same_stamp s) ts)
list_any-insert_stamp s t [] = refl
list_any-insert_stamp s t (u ∷ ts) =
    cond_both (is_le (stamp_cmp t u)) (t ∷ u ∷ ts) (u ∷ insert_stamp t ts) (λ x. list_any (same_stamp s) x ≡ (same_stamp s t || (same_stamp s u || list_any (same_stamp s) ts)))
    (λ _. refl)
    (λ _. ap (λ x. same_stamp s u || x) (list_any-insert_stamp s t ts) ∙ or_swap (same_stamp s u) (same_stamp s t) (list_any (same_stamp s) ts))

pub same_from_test : (s t : Stamp) → same_stamp s t ≡ true → s ≡ t
same_from_test s t same =
    let numbers : (s.timestamp == t.timestamp) ≡ true = first_so (s.timestamp == t.timestamp) (bytes_eq s.nonce t.nonce) same in
    let number : s.timestamp ≡ t.timestamp = grind (arith, nat_tests) in
    let nonce : s.nonce ≡ t.nonce = (bytes_decides s.nonce t.nonce).0 (second_so (s.timestamp == t.timestamp) (bytes_eq s.nonce t.nonce) same) in
    λ i. record { timestamp = number i; nonce = nonce i }

or_false : (a b : Bool) → a ≡ false → b ≡ (a || b)
or_false a b e = ap (λ x. x || b) (sym e)

or_true : (a b : Bool) → a ≡ true → b ≡ true → b ≡ (a || b)
or_true a b e h = h ∙ ap (λ x. x || b) (sym e)

stays : (s t : Stamp) (ts : List Stamp) → list_any (same_stamp t) ts ≡ true → list_any (same_stamp s) ts ≡ (same_stamp s t || list_any (same_stamp s) ts)
stays s t ts there =
    ⊎_elim
    (λ same. or_true (same_stamp s t) (list_any (same_stamp s) ts) same (ap (λ x. list_any (same_stamp x) ts) (same_from_test s t same) ∙ there))
    (λ other. or_false (same_stamp s t) (list_any (same_stamp s) ts) other)
    (cases_Bool (same_stamp s t))

pub list_any-add_stamp : (s t : Stamp) (ts : List Stamp) → list_any (same_stamp s) (add_stamp t ts) ≡ (same_stamp s t || list_any (same_stamp s) ts)
list_any-add_stamp s t ts =
    cond_both (list_any (same_stamp t) ts) ts (insert_stamp t ts) (λ x. list_any (same_stamp s) x ≡ (same_stamp s t || list_any (same_stamp s) ts))
    (stays s t ts)
    (λ _. list_any-insert_stamp s t ts)

-- a stamp is among the live ones where a live entry has it
pub list_any-live : (es : List Entry) (key : List ℕ) (now : ℕ) (s : Stamp) → list_any (same_stamp s) (live es key now) ≡ stands_live es key now s
unfolding live
list_any-live [] key now s = refl
list_any-live (e ∷ es) key now s =
    cond_both (is_live key now e) (add_stamp (stamp_of e) (live es key now)) (live es key now) (λ x. list_any (same_stamp s) x ≡ stands_live (e ∷ es) key now s)
    (λ lives. list_any-add_stamp s (stamp_of e) (live es key now) ∙ ap (λ x. same_stamp s (stamp_of e) || x) (list_any-live es key now s) ∙ ap (λ x. x && same_stamp s (stamp_of e) || stands_live es key now s) (sym lives))
    (λ forgotten. list_any-live es key now s ∙ ap (λ x. x && same_stamp s (stamp_of e) || stands_live es key now s) (sym forgotten))

-- an entry adds one where it is live and none after it has its stamp
pub length-live-cons : (e : Entry) (es : List Entry) (key : List ℕ) (now : ℕ) → length (live (e ∷ es) key now) ≡ cond (adds_one e es key now) 1 0 + length (live es key now)
unfolding live
length-live-cons e es key now =
    let there = list_any-live es key now (stamp_of e) in
    cond_both (is_live key now e) (add_stamp (stamp_of e) (live es key now)) (live es key now) (λ x. length x ≡ cond (adds_one e es key now) 1 0 + length (live es key now))
    (λ lives. cond_both (list_any (same_stamp (stamp_of e)) (live es key now)) (live es key now) (insert_stamp (stamp_of e) (live es key now)) (λ x. length x ≡ cond (adds_one e es key now) 1 0 + length (live es key now))
    (λ stands. let adds : adds_one e es key now ≡ false = λ i. lives i && not ((sym there ∙ stands) i) in
    omega (arith, cond-false {A = ℕ} (adds_one e es key now) 1 0 adds))
    (λ missing. let adds : adds_one e es key now ≡ true = λ i. lives i && not ((sym there ∙ missing) i) in
    omega (arith, cond-true {A = ℕ} (adds_one e es key now) 1 0 adds, length-insert_stamp (stamp_of e) (live es key now))))
    (λ forgotten. let adds : adds_one e es key now ≡ false = λ i. forgotten i && not (stands_live es key now (stamp_of e)) in
    omega (arith, cond-false {A = ℕ} (adds_one e es key now) 1 0 adds))

cond_le : (b : Bool) → cond b 1 0 ≤ 1
cond_le true = omega arith
cond_le false = omega arith

pub length-live-le : (es : List Entry) (key : List ℕ) (now : ℕ) → length (live es key now) ≤ length es
length-live-le [] key now = unfold live in omega arith
length-live-le (e ∷ es) key now =
    omega (arith, length-live-cons e es key now, cond_le (adds_one e es key now), length-live-le es key now)

-- ---- lists without repeats

pub is_of_key_parts : (key : List ℕ) (e : Entry) → is_of_key key e ≡ true → (is_signed e ≡ true) × (e.key ≡ key)
is_of_key_parts key e h = (first_so (is_signed e) (bytes_eq e.key key) h, (bytes_decides e.key key).0 (second_so (is_signed e) (bytes_eq e.key key) h))

and_drop : (a m b : Bool) → (a && b) ≡ false → ((a && m) && b) ≡ false
and_drop false m b h = refl
and_drop true true b h = h
and_drop true false b h = refl

-- a live entry with a stamp is an entry with it
stands_live-false : (es : List Entry) (key : List ℕ) (now : ℕ) (s : Stamp) → stands es key s ≡ false → stands_live es key now s ≡ false
stands_live-false [] key now s none = refl
stands_live-false (e ∷ es) key now s none =
    let parts = or_parts (uses key s e) (stands es key s) none in
    or_from (is_live key now e && same_stamp s (stamp_of e)) (stands_live es key now s)
    (and_drop (is_of_key key e) (nat_le (now / 60) (e.timestamp / 60 + 90)) (same_stamp s (stamp_of e)) parts.0)
    (stands_live-false es key now s parts.1)

adds_one-alone : (e : Entry) (es : List Entry) (key : List ℕ) (now : ℕ) → stands es e.key (stamp_of e) ≡ false → adds_one e es key now ≡ is_live key now e
adds_one-alone e es key now alone =
    ⊎_elim
    (λ lives.
    let key_is = (is_of_key_parts key e (first_so (is_of_key key e) (nat_le (now / 60) (e.timestamp / 60 + 90)) lives)).1 in
    let none = stands_live-false es key now (stamp_of e) (ap (λ k. stands es k (stamp_of e)) (sym key_is) ∙ alone) in
    (λ i. lives i && not (none i)) ∙ sym lives)
    (λ dead. (λ i. dead i && not (stands_live es key now (stamp_of e))) ∙ sym dead)
    (cases_Bool (is_live key now e))

-- where nothing repeats, the live stamps are as many as the live entries
pub length-live-count_by : (es : List Entry) (key : List ℕ) (now : ℕ) → NoRepeats es → length (live es key now) ≡ count_by (is_live key now) es
unfolding NoRepeats
length-live-count_by [] key now alone = unfold live in refl
length-live-count_by (e ∷ es) key now alone =
    omega (arith, length-live-cons e es key now, sum_by-cons (λ x. cond (is_live key now x) 1 0) e es, ap (λ b. cond {A = ℕ} b 1 0) (adds_one-alone e es key now alone.0), length-live-count_by es key now alone.1)

same_itself : (s : Stamp) → same_stamp s s ≡ true
same_itself s =
    let numbers : (s.timestamp == s.timestamp) ≡ true = grind (arith, nat_tests) in
    let nonces = (bytes_decides s.nonce s.nonce).1 refl in
    λ i. numbers i && nonces i

flipped : (x e : Entry) → uses e.key (stamp_of e) x ≡ false → uses x.key (stamp_of x) e ≡ true → ⊥
flipped x e other h =
    let parts = is_of_key_parts x.key e (first_so (is_of_key x.key e) (same_stamp (stamp_of x) (stamp_of e)) h) in
    let stamps = same_from_test (stamp_of x) (stamp_of e) (second_so (is_of_key x.key e) (same_stamp (stamp_of x) (stamp_of e)) h) in
    let signed : is_signed x ≡ true = ap (λ s. not (length s.nonce == 0)) stamps ∙ parts.0 in
    let keys : bytes_eq x.key e.key ≡ true = (bytes_decides x.key e.key).1 (sym parts.1) in
    let same : same_stamp (stamp_of e) (stamp_of x) ≡ true = ap (λ s. same_stamp (stamp_of e) s) stamps ∙ same_itself (stamp_of e) in
    let both : uses e.key (stamp_of e) x ≡ true = λ i. (signed i && keys i) && same i in
    true≢false (sym both ∙ other)

pub NoRepeats-push : (es : List Entry) (e : Entry) → NoRepeats es → stands es e.key (stamp_of e) ≡ false → NoRepeats (es ++ e ∷ [])
unfolding NoRepeats
NoRepeats-push [] e alone none = (refl, tt)
NoRepeats-push (x ∷ es) e alone none =
    let parts = or_parts (uses e.key (stamp_of e) x) (stands es e.key (stamp_of e)) none in
    let last = false_from_ne_true (uses x.key (stamp_of x) e) (flipped x e parts.0) in
    (list_any-append (uses x.key (stamp_of x)) es (e ∷ []) ∙ or_from _ _ alone.0 (or_from _ false last refl), NoRepeats-push es e alone.1 parts.1)

-- ---- the greatest moment

pub high-push : (es : List Entry) (e : Entry) → high (es ++ e ∷ []) ≡ max (high es) e.moment
high-push [] e = omega arith
high-push (x ∷ es) e = omega (arith, high-push es e)
