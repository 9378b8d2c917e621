-- What is live at a later moment is a part of what is live now.
use Rattle.std.proofs.Common.{◌≡◌, ◌≤◌, ◌+◌, ◌/◌, ◌==◌, ℕ, Bool, true, false, true≢false, not, ◌&&◌, ◌||◌, nat_le, List, [], ◌∷◌, length, filter, refl, sym, ap, ◌∙◌, arith, if◌then◌else◌}
use Rattle.std.specs.List.{list_any}
use Rattle.std.proofs.lemmas.Bool.{cond-false, cond_both}
use Rattle.std.proofs.lemmas.Bool.Decides.{nat_tests}
use Rattle.std.proofs.lemmas.List.Kept.{IsStrictlySortedBy-filter}
use Rattle.lti_machine.specs.declared.entry.Entry.{Entry}
use Rattle.lti_machine.specs.Nonces.{Stamp, stamp_of, stamp_cmp, same_stamp, add_stamp, is_live, live}
use Rattle.lti_machine.specs.Used.{Used}
use Rattle.lti_machine.proofs.LiveLemmas.{same_from_test}
use Rattle.lti_machine.proofs.UsedLemmas.{has, rises_live, same_stamps, contains-live, contains_is}

-- a nonce with this timestamp isn't forgotten at the moment
abbrev pub still : ℕ → Stamp → Bool
still now stamp = nat_le (now / 60) (stamp.timestamp / 60 + 90)

pub still-earlier : (now later : ℕ) (s : Stamp) → now ≤ later → still later s ≡ true → still now s ≡ true
still-earlier now later s h lives = grind (arith, nat_tests)

-- ---- the live stamps

live-cons_at : (e : Entry) (es : List Entry) (key : List ℕ) (now : ℕ) → live (e ∷ es) key now ≡ (if is_live key now e then add_stamp (stamp_of e) (live es key now) else live es key now)
unfolding live
live-cons_at e es key now = refl

pub live-cons_out : (e : Entry) (es : List Entry) (key : List ℕ) (now : ℕ) → is_live key now e ≡ false → live (e ∷ es) key now ≡ live es key now
live-cons_out e es key now h = live-cons_at e es key now ∙ cond-false (is_live key now e) (add_stamp (stamp_of e) (live es key now)) (live es key now) h

-- the same entry before two lists with the same live stamps
pub live-cons_same : (e : Entry) (es fs : List Entry) (key : List ℕ) (now : ℕ) → live es key now ≡ live fs key now → live (e ∷ es) key now ≡ live (e ∷ fs) key now
unfolding live
live-cons_same e es fs key now same = ap (λ x. if is_live key now e then add_stamp (stamp_of e) x else x) same

-- a stamp is among those that pass a test where it passes and is among them
list_any-filter : (p : Stamp → Bool) (q : Stamp) (ts : List Stamp) → list_any (same_stamp q) (filter p ts) ≡ (p q && list_any (same_stamp q) ts)
list_any-filter p q [] = none (p q)
  where
    none : (b : Bool) → false ≡ (b && false)
    none true = refl
    none false = refl
list_any-filter p q (t ∷ ts) =
    cond_both (p t) (t ∷ filter p ts) (filter p ts) (λ x. list_any (same_stamp q) x ≡ (p q && (same_stamp q t || list_any (same_stamp q) ts)))
    (λ yes. ap (λ b. same_stamp q t || b) (list_any-filter p q ts) ∙ in_ (p q) (same_stamp q t) (list_any (same_stamp q) ts) (λ same. ap p (same_from_test q t same) ∙ yes))
    (λ no. list_any-filter p q ts ∙ out (p q) (same_stamp q t) (list_any (same_stamp q) ts) (λ same. ap p (same_from_test q t same) ∙ no))
  where
    in_ : (a c x : Bool) → (c ≡ true → a ≡ true) → (c || (a && x)) ≡ (a && (c || x))
    in_ true c x h = refl
    in_ false true x h = sym (h refl)
    in_ false false x h = refl

    out : (a c x : Bool) → (c ≡ true → a ≡ false) → (a && x) ≡ (a && (c || x))
    out false c x h = refl
    out true true x h = absurd (true≢false (h refl))
    out true false x h = refl

-- what is live later is what is live now and isn't forgotten then
pub live-later : (es : List Entry) (key : List ℕ) (now later : ℕ) → now ≤ later → live es key later ≡ filter (still later) (live es key now)
live-later es key now later h =
    same_stamps (live es key later) (filter (still later) (live es key now)) (rises_live es key later) (IsStrictlySortedBy-filter stamp_cmp (still later) (live es key now) (rises_live es key now))
    (λ q. let u : Used = record { key = key; stamp = q } in
    contains-live es later u
    ∙ contains_is es later u
    ∙ by (not (length q.nonce == 0)) (still later q) (still now q) (has u es) (still-earlier now later q h)
    ∙ ap (λ b. still later q && b) (sym (contains_is es now u) ∙ sym (contains-live es now u))
    ∙ sym (list_any-filter (still later) q (live es key now)))
  where
    by : (s l n x : Bool) → (l ≡ true → n ≡ true) → ((s && l) && x) ≡ (l && ((s && n) && x))
    by false true n x earlier = refl
    by false false n x earlier = refl
    by true false n x earlier = refl
    by true true n x earlier = ap (λ b. b && x) (sym (earlier refl))

length-filter_le : (p : Stamp → Bool) (ts : List Stamp) → length (filter p ts) ≤ length ts
length-filter_le p [] = omega arith
length-filter_le p (t ∷ ts) =
    cond_both (p t) (t ∷ filter p ts) (filter p ts) (λ x. length x ≤ length (t ∷ ts))
    (λ _. omega (arith, length-filter_le p ts))
    (λ _. omega (arith, length-filter_le p ts))

-- a key has no more live stamps later, if none is added
pub length-live_later : (es : List Entry) (key : List ℕ) (now later : ℕ) → now ≤ later → length (live es key later) ≤ length (live es key now)
length-live_later es key now later h =
    omega (arith, ap length (live-later es key now later h), length-filter_le (still later) (live es key now))
