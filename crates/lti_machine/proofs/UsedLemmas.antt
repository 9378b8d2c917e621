-- The live nonces of all keys together, and those of each key.
use Rattle.std.proofs.Common.{◌≡◌, ◌≤◌, ◌+◌, ◌/◌, ⊎_elim, ℕ, Bool, true, false, true≢false, not, ◌&&◌, ◌||◌, ◌==◌, nat_le, List, [], ◌∷◌, ◌++◌, length, map, filter, refl, sym, ap, ◌∙◌, arith, is_le, is_eq, bytes_eq, if◌then◌else◌}
use Rattle.std.specs.List.{list_any}
use Rattle.std.specs.List.Sorted.{IsStrictlySortedBy}
use Rattle.std.specs.Ordering.{nat_cmp, ordering_reverse, eq_by_cmp}
use Rattle.std.specs.declared.cmp.Ordering.{Ordering}
use Rattle.std.specs.declared.cmp.Ordering.TheVariants.{Less, Equal, Greater}
use Rattle.std.specs.Cmp.{IsTotalOrder}
use Rattle.std.specs.Cmp.Lexicographic.{slice_cmp, on_texts, nat_list_eq_equiv, bytes_decides}
use Rattle.std.proofs.lemmas.Bool.{cond_both, cond-true, cases_Bool, and_parts, and_from, or_parts}
use Rattle.std.proofs.lemmas.Bool.Decides.{nat_tests}
use Rattle.std.proofs.lemmas.List.Folds.{list_any-append}
use Rattle.std.proofs.lemmas.Cmp.{then_total, on_total}
use Rattle.std.proofs.lemmas.Map.Text.{is_eq-slice_cmp}
use Rattle.lti_machine.specs.declared.entry.Entry.{Entry}
use Rattle.lti_machine.specs.declared.verdict.Verdict.TheVariants.{New, Outside, WindowFull, Used as Used'}
use Rattle.lti_machine.specs.Nonces.{Stamp, stamp_cmp, stamp_of, same_stamp, insert_stamp, add_stamp, is_signed, is_live, is_inside, stands, live, verdict}
use Rattle.lti_machine.proofs.LiveLemmas.{same_from_test, stands_live, list_any-live}
use Rattle.lti_machine.proofs.StampLemmas.{stamps_total, le, le_cases, is_eq-stamp_cmp, is_eq-then}
use Rattle.lti_machine.specs.Used.{Used, used_of, used_cmp, lives, used}
use Rattle.lti_machine.proofs.OrderLemmas.{IsBefore, before_further, same_rising, contains-in_order, rises-in_order}

-- ---- the order of stamps, and that of stamps under their keys

stamps_apart : (s t : Stamp) → stamp_cmp s t ≡ Equal → s ≡ t
stamps_apart s t tied = same_from_test s t (sym (is_eq-stamp_cmp s t) ∙ ap is_eq tied)

pub used_total : IsTotalOrder used_cmp
used_total = then_total (on_texts (λ (u : Used). u.key)) (on_total (λ (u : Used). u.stamp) stamps_total)

-- the same stamp under the same key
abbrev pub same_used : Used → Used → Bool
same_used a b = bytes_eq a.key b.key && same_stamp a.stamp b.stamp

pub is_eq-used_cmp : (a b : Used) → eq_by_cmp used_cmp a b ≡ same_used a b
is_eq-used_cmp a b =
    is_eq-then (slice_cmp nat_cmp a.key b.key) (stamp_cmp a.stamp b.stamp)
    ∙ (λ i. is_eq-slice_cmp a.key b.key i && is_eq-stamp_cmp a.stamp b.stamp i)

pub same_used_parts : (a b : Used) → same_used a b ≡ true → a ≡ b
same_used_parts a b same =
    let parts = and_parts (bytes_eq a.key b.key) (same_stamp a.stamp b.stamp) same in
    let keys = (bytes_decides a.key b.key).0 parts.0 in
    let stamps = same_from_test a.stamp b.stamp parts.1 in
    λ i. record { key = keys i; stamp = stamps i }

pub used_apart : (a b : Used) → used_cmp a b ≡ Equal → a ≡ b
used_apart a b tied = same_used_parts a b (sym (is_eq-used_cmp a b) ∙ ap is_eq tied)

-- ---- the live stamps of a key rise strictly, so that the stamps among them tell the list

less_from : (s t : Stamp) → le s t ≡ true → same_stamp s t ≡ false → stamp_cmp s t ≡ Less
less_from s t before differ =
    ⊎_elim (λ less. less) (λ tied. absurd (true≢false (sym (ap is_eq tied) ∙ is_eq-stamp_cmp s t ∙ differ))) (le_cases (stamp_cmp s t) before)

greater_turns : (o : Ordering) → is_le o ≡ false → ordering_reverse o ≡ Less
greater_turns Less h = absurd (true≢false h)
greater_turns Equal h = absurd (true≢false h)
greater_turns Greater h = refl

before_inserted : (s t : Stamp) (ts : List Stamp) → stamp_cmp s t ≡ Less → IsBefore stamp_cmp s ts → IsBefore stamp_cmp s (insert_stamp t ts)
before_inserted s t [] less before = (less, tt)
before_inserted s t (u ∷ ts) less before =
    cond_both (le t u) (t ∷ u ∷ ts) (u ∷ insert_stamp t ts) (IsBefore stamp_cmp s)
    (λ _. (less, before))
    (λ _. (before.0, before_inserted s t ts less before.1))

rises_inserted : (s : Stamp) (ts : List Stamp) → IsStrictlySortedBy stamp_cmp ts → list_any (same_stamp s) ts ≡ false → IsStrictlySortedBy stamp_cmp (insert_stamp s ts)
unfolding IsStrictlySortedBy
rises_inserted s [] rises new = (tt, tt)
rises_inserted s (t ∷ ts) rises new =
    let parts = or_parts (same_stamp s t) (list_any (same_stamp s) ts) new in
    cond_both (le s t) (s ∷ t ∷ ts) (t ∷ insert_stamp s ts) (IsStrictlySortedBy stamp_cmp)
    (λ before.
    let less = less_from s t before parts.0 in
    ((less, before_further stamps_total s t ts less rises.0), rises))
    (λ past.
    let less = stamps_total.antisymm t s ∙ greater_turns (stamp_cmp s t) past in
    (before_inserted t s ts less rises.0, rises_inserted s ts rises.1 parts.1))

pub rises_added : (s : Stamp) (ts : List Stamp) → IsStrictlySortedBy stamp_cmp ts → IsStrictlySortedBy stamp_cmp (add_stamp s ts)
rises_added s ts rises =
    cond_both (list_any (same_stamp s) ts) ts (insert_stamp s ts) (IsStrictlySortedBy stamp_cmp)
    (λ _. rises)
    (λ new. rises_inserted s ts rises new)

pub rises_live : (es : List Entry) (key : List ℕ) (now : ℕ) → IsStrictlySortedBy stamp_cmp (live es key now)
unfolding live
rises_live [] key now = unfold IsStrictlySortedBy in tt
rises_live (e ∷ es) key now =
    let rest = rises_live es key now in
    cond_both (is_live key now e) (add_stamp (stamp_of e) (live es key now)) (live es key now) (IsStrictlySortedBy stamp_cmp)
    (λ _. rises_added (stamp_of e) (live es key now) rest)
    (λ _. rest)

pub same_stamps : (ss ts : List Stamp) → IsStrictlySortedBy stamp_cmp ss → IsStrictlySortedBy stamp_cmp ts → ((q : Stamp) → list_any (same_stamp q) ss ≡ list_any (same_stamp q) ts) → ss ≡ ts
same_stamps ss ts one other same =
    same_rising stamps_total stamps_apart ss ts one other
    (λ q. (λ i. list_any (λ t. is_eq-stamp_cmp q t i) ss) ∙ same q ∙ (λ i. list_any (λ t. sym (is_eq-stamp_cmp q t) i) ts))

-- ---- what the list has

-- the stamp is in the list
abbrev pub is_used : Used → List Used → Bool
is_used u us = list_any (eq_by_cmp used_cmp u) us

-- lists with the same stamps are the same
pub same_used_list : (a b : List Entry) (now : ℕ) → ((u : Used) → is_used u (used a now) ≡ is_used u (used b now)) → used a now ≡ used b now
same_used_list a b now same =
    same_rising used_total used_apart (used a now) (used b now) (rises-in_order used_total (map used_of (filter (lives now) a))) (rises-in_order used_total (map used_of (filter (lives now) b))) same

-- the entry is live and uses up the stamp
abbrev pub hits : ℕ → Used → Entry → Bool
hits now u e = lives now e && same_used u (used_of e)

-- the stamp isn't forgotten
abbrev pub still : ℕ → Used → Bool
still now u = not (length u.stamp.nonce == 0) && nat_le (now / 60) (u.stamp.timestamp / 60 + 90)

-- an entry uses up the stamp, live or not
abbrev pub has : Used → List Entry → Bool
has u es = list_any (λ e. same_used u (used_of e)) es

pub contains-used : (es : List Entry) (now : ℕ) (u : Used) → is_used u (used es now) ≡ list_any (hits now u) es
contains-used es now u = contains-in_order used_total (map used_of (filter (lives now) es)) u ∙ each es
  where
    each : (es : List Entry) → list_any (eq_by_cmp used_cmp u) (map used_of (filter (lives now) es)) ≡ list_any (hits now u) es
    each [] = refl
    each (e ∷ es) =
        cond_both (lives now e) (e ∷ filter (lives now) es) (filter (lives now) es) (λ x. list_any (eq_by_cmp used_cmp u) (map used_of x) ≡ (hits now u e || list_any (hits now u) es))
        (λ yes. (λ i. (is_eq-used_cmp u (used_of e) ∙ ap (λ b. b && same_used u (used_of e)) (sym yes)) i || each es i))
        (λ no. each es ∙ ap (λ b. b && same_used u (used_of e) || list_any (hits now u) es) (sym no))

and_none : (a : Bool) → (a && false) ≡ false
and_none true = refl
and_none false = refl

-- whether an entry with this stamp is live is told by the stamp
pub hits_is : (now : ℕ) (u : Used) (e : Entry) → hits now u e ≡ (still now u && same_used u (used_of e))
hits_is now u e = by (same_used u (used_of e)) (same_used_parts u (used_of e))
  where
    by : (b : Bool) → (b ≡ true → u ≡ used_of e) → (lives now e && b) ≡ (still now u && b)
    by true same = ap (λ v. still now v && true) (sym (same refl))
    by false same = and_none (lives now e) ∙ sym (and_none (still now u))

pub spread : {A : Type 0} (c : Bool) (p q : A → Bool) (xs : List A) → ((x : A) → p x ≡ (c && q x)) → list_any p xs ≡ (c && list_any q xs)
spread true p q [] same = refl
spread false p q [] same = refl
spread c p q (x ∷ xs) same = (λ i. same x i || spread c p q xs same i) ∙ shared c (q x) (list_any q xs)
  where
    shared : (c a b : Bool) → ((c && a) || (c && b)) ≡ (c && (a || b))
    shared true a b = refl
    shared false a b = refl

-- the list has a stamp where it isn't forgotten and an entry uses it up
pub contains_is : (es : List Entry) (now : ℕ) (u : Used) → is_used u (used es now) ≡ (still now u && has u es)
contains_is es now u = contains-used es now u ∙ spread (still now u) (hits now u) (λ e. same_used u (used_of e)) es (hits_is now u)

-- so lists are the same where they have the same stamps that aren't forgotten
pub used_from_has : (a b : List Entry) (now : ℕ) → ((u : Used) → (still now u && has u a) ≡ (still now u && has u b)) → used a now ≡ used b now
used_from_has a b now same = same_used_list a b now (λ u. contains_is a now u ∙ same u ∙ sym (contains_is b now u))

pub has_from_used : (a b : List Entry) (now : ℕ) → used a now ≡ used b now → (u : Used) → (still now u && has u a) ≡ (still now u && has u b)
has_from_used a b now same u = sym (contains_is a now u) ∙ ap (is_used u) same ∙ contains_is b now u

-- ---- later, and with more entries

still-earlier : (now later : ℕ) (u : Used) → now ≤ later → still later u ≡ true → still now u ≡ true
still-earlier now later u h lives =
    let parts = and_parts (not (length u.stamp.nonce == 0)) (nat_le (later / 60) (u.stamp.timestamp / 60 + 90)) lives in
    let within = parts.1 in
    and_from (not (length u.stamp.nonce == 0)) (nat_le (now / 60) (u.stamp.timestamp / 60 + 90)) parts.0 (grind (arith, nat_tests))

pub used_later : (a b : List Entry) (now later : ℕ) → now ≤ later → used a now ≡ used b now → used a later ≡ used b later
used_later a b now later h same = used_from_has a b later (λ u. by u (still later u) (still now u) (has u a) (has u b) (still-earlier now later u h) (has_from_used a b now same u))
  where
    by : (u : Used) (l n x y : Bool) → (l ≡ true → n ≡ true) → (n && x) ≡ (n && y) → (l && x) ≡ (l && y)
    by u false n x y earlier is = refl
    by u true n x y earlier is = ap (λ b. b && x) (sym (earlier refl)) ∙ is ∙ ap (λ b. b && y) (earlier refl)

pub used_append : (a b more : List Entry) (now : ℕ) → used a now ≡ used b now → used (a ++ more) now ≡ used (b ++ more) now
used_append a b more now same = used_from_has (a ++ more) (b ++ more) now (λ u.
    ap (λ x. still now u && x) (list_any-append (λ e. same_used u (used_of e)) a more)
    ∙ by (still now u) (has u a) (has u b) (has u more) (has_from_used a b now same u)
    ∙ ap (λ x. still now u && x) (sym (list_any-append (λ e. same_used u (used_of e)) b more)))
  where
    by : (n x y z : Bool) → (n && x) ≡ (n && y) → (n && (x || z)) ≡ (n && (y || z))
    by true x y z is = ap (λ b. b || z) is
    by false x y z is = refl

-- ---- the live stamps of each key tell the list, and are told by it

shuffled : (s k l m : Bool) → (((s && k) && l) && m) ≡ ((s && l) && (k && m))
shuffled false k l m = refl
shuffled true true true m = refl
shuffled true true false m = refl
shuffled true false true m = refl
shuffled true false false m = refl

pub contains-live : (es : List Entry) (now : ℕ) (u : Used) → list_any (same_stamp u.stamp) (live es u.key now) ≡ is_used u (used es now)
contains-live es now u = list_any-live es u.key now u.stamp ∙ each es ∙ sym (contains-used es now u)
  where
    each : (es : List Entry) → stands_live es u.key now u.stamp ≡ list_any (hits now u) es
    each [] = refl
    each (e ∷ es) =
        let front = shuffled (is_signed e) (bytes_eq e.key u.key) (nat_le (now / 60) (e.timestamp / 60 + 90)) (same_stamp u.stamp (stamp_of e)) in
        let keys = nat_list_eq_equiv.symm e.key u.key in
        λ i. (front ∙ ap (λ b. lives now e && (b && same_stamp u.stamp (stamp_of e))) keys) i || each es i

-- where the lists are the same, so are the live stamps of each key
pub live_from_used : (a b : List Entry) (now : ℕ) → used a now ≡ used b now → (key : List ℕ) → live a key now ≡ live b key now
live_from_used a b now same key =
    same_stamps (live a key now) (live b key now) (rises_live a key now) (rises_live b key now)
    (λ q. let u : Used = record { key = key; stamp = q } in
    contains-live a now u ∙ ap (is_used u) same ∙ sym (contains-live b now u))

-- and the other way
pub used_from_live : (a b : List Entry) (now : ℕ) → ((key : List ℕ) → live a key now ≡ live b key now) → used a now ≡ used b now
used_from_live a b now same =
    same_used_list a b now
    (λ u. sym (contains-live a now u) ∙ ap (list_any (same_stamp u.stamp)) (same u.key) ∙ contains-live b now u)

-- ---- the verdict

-- a stamp that is inside stands where the list has it
stands-used : (es : List Entry) (key : List ℕ) (stamp : Stamp) (now : ℕ) → is_inside stamp.timestamp now ≡ true → stands es key stamp ≡ is_used (record { key = key; stamp = stamp }) (used es now)
stands-used es key stamp now inside = each es ∙ sym (contains-used es now u)
  where
    u : Used
    u = record { key = key; stamp = stamp }

    times : (e : Entry) → same_stamp stamp (stamp_of e) ≡ true → nat_le (now / 60) (e.timestamp / 60 + 90) ≡ true
    times e same =
        let here : nat_le (now / 60) (stamp.timestamp / 60 + 90) ≡ true = grind (arith, nat_tests) in
        ap (λ (s : Stamp). nat_le (now / 60) (s.timestamp / 60 + 90)) (sym (same_from_test stamp (stamp_of e) same)) ∙ here

    each : (es : List Entry) → stands es key stamp ≡ list_any (hits now u) es
    each [] = refl
    each (e ∷ es) =
        let keys = nat_list_eq_equiv.symm e.key key in
        λ i. (by (is_signed e) (bytes_eq e.key key) (nat_le (now / 60) (e.timestamp / 60 + 90)) (same_stamp stamp (stamp_of e)) (times e)
        ∙ ap (λ b. lives now e && (b && same_stamp stamp (stamp_of e))) keys) i || each es i
      where
        by : (s k l m : Bool) → (m ≡ true → l ≡ true) → ((s && k) && m) ≡ ((s && l) && (k && m))
        by false k l m h = refl
        by true false l m h = sym (and_none l)
        by true true l false h = sym (and_none l)
        by true true l true h = ap (λ b. b && true) (sym (h refl))

pub same_verdict : (a b : List Entry) (key : List ℕ) (stamp : Stamp) (now limit : ℕ) → used a now ≡ used b now → verdict a key stamp now limit ≡ verdict b key stamp now limit
same_verdict a b key stamp now limit same =
    ⊎_elim
    (λ inside.
    let stand = stands-used a key stamp now inside ∙ ap (is_used (record { key = key; stamp = stamp })) same ∙ sym (stands-used b key stamp now inside) in
    λ i. if not (is_inside stamp.timestamp now) then Outside else if stand i then Used' else if nat_le limit (length (lives_ i)) then WindowFull (length (lives_ i)) else New)
    (λ outside. outside_verdict a outside ∙ sym (outside_verdict b outside))
    (cases_Bool (is_inside stamp.timestamp now))
  where
    lives_ : live a key now ≡ live b key now
    lives_ = live_from_used a b now same key

    outside_verdict : (es : List Entry) → is_inside stamp.timestamp now ≡ false → verdict es key stamp now limit ≡ Outside
    outside_verdict es outside = cond-true (not (is_inside stamp.timestamp now)) Outside (if stands es key stamp then Used' else if nat_le limit (length (live es key now)) then WindowFull (length (live es key now)) else New) (ap not outside)
