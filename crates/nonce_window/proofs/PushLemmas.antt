-- The live stamps of a list with one more entry at its end.
use Rattle.std.proofs.Common.{◌≡◌, ◌≤◌, ◌+◌, ℕ, Bool, true, false, not, ◌&&◌, ◌||◌, ◌==◌, List, [], ◌∷◌, ◌++◌, length, ◌<◌, refl, sym, ap, ◌∙◌, arith, bytes_eq, if◌then◌else◌}
use Rattle.std.specs.Cmp.{first_so, second_so}
use Rattle.std.specs.Cmp.Lexicographic.{bytes_decides}
use Rattle.std.specs.List.{list_any}
use Rattle.std.proofs.lemmas.Bool.{cond-true, cond_both}
use Rattle.std.proofs.lemmas.List.Folds.{list_any-append}
use Rattle.std.proofs.lemmas.Bool.Decides.{nat_tests}
use Rattle.lti_machine.specs.declared.entry.Entry.{Entry}
use Rattle.lti_machine.specs.Nonces.{Stamp, stamp_of, same_stamp, add_stamp, insert_stamp, is_of_key, is_live, is_inside, live, stands}
use Rattle.lti_machine.proofs.LiveLemmas.{same_from_test, list_any-add_stamp, list_any-live, stands_live, is_of_key_parts, length-insert_stamp}
use Rattle.lti_machine.proofs.UsedLemmas.{same_stamps, rises_live, rises_added}
use Rattle.nonce_window.proofs.LaterLemmas.{still}

-- the stamp has a nonce, is its owner's under this key, and isn't forgotten
abbrev pub lives : List ℕ → ℕ → List ℕ → Stamp → Bool
lives key now owner stamp = not (length stamp.nonce == 0) && bytes_eq owner key && still now stamp

-- the live stamps of a key with one more stamp
abbrev pub grown : List ℕ → ℕ → List ℕ → Stamp → List Stamp → List Stamp
grown key now owner stamp ts = if lives key now owner stamp then add_stamp stamp ts else ts

add_there : (s : Stamp) (ts : List Stamp) → list_any (same_stamp s) ts ≡ true → add_stamp s ts ≡ ts
add_there s ts h = cond-true (list_any (same_stamp s) ts) ts (insert_stamp s ts) h

pub live-push : (es : List Entry) (e : Entry) (key : List ℕ) (now : ℕ) → live (es ++ e ∷ []) key now ≡ grown key now e.key (stamp_of e) (live es key now)
live-push es e key now =
    cond_both (is_live key now e) (add_stamp (stamp_of e) (live es key now)) (live es key now) (λ x. live (es ++ e ∷ []) key now ≡ x)
    (λ lives. same_stamps (live (es ++ e ∷ []) key now) (add_stamp (stamp_of e) (live es key now)) (rises_live (es ++ e ∷ []) key now) (rises_added (stamp_of e) (live es key now) (rises_live es key now))
    (λ q. has q ∙ ap (λ b. stands_live es key now q || (b && same_stamp q (stamp_of e) || false)) lives ∙ turned (stands_live es key now q) (same_stamp q (stamp_of e))
    ∙ ap (λ b. same_stamp q (stamp_of e) || b) (sym (list_any-live es key now q))
    ∙ sym (list_any-add_stamp q (stamp_of e) (live es key now))))
    (λ dead. same_stamps (live (es ++ e ∷ []) key now) (live es key now) (rises_live (es ++ e ∷ []) key now) (rises_live es key now)
    (λ q. has q ∙ ap (λ b. stands_live es key now q || (b && same_stamp q (stamp_of e) || false)) dead ∙ turned (stands_live es key now q) false ∙ sym (list_any-live es key now q)))
  where
    has : (q : Stamp) → list_any (same_stamp q) (live (es ++ e ∷ []) key now) ≡ (stands_live es key now q || (is_live key now e && same_stamp q (stamp_of e) || false))
    has q = list_any-live (es ++ e ∷ []) key now q ∙ list_any-append (λ x. is_live key now x && same_stamp q (stamp_of x)) es (e ∷ [])

    turned : (a b : Bool) → (a || (b || false)) ≡ (b || a)
    turned true true = refl
    turned true false = refl
    turned false true = refl
    turned false false = refl

-- ---- a stamp that stands in the list

same_parts : (k t m : Bool) → (m ≡ true → t ≡ true) → ((k && t) && m) ≡ (k && m)
same_parts true true m h = refl
same_parts true false true h = h refl
same_parts true false false h = refl
same_parts false t m h = refl

-- where a stamp isn't forgotten, it stands among the live ones where it stands at all
pub stands_live-is : (es : List Entry) (key : List ℕ) (now : ℕ) (s : Stamp) → still now s ≡ true → stands_live es key now s ≡ stands es key s
stands_live-is [] key now s here = refl
stands_live-is (e ∷ es) key now s here =
    λ i. same_parts (is_of_key key e) (still now (stamp_of e)) (same_stamp s (stamp_of e)) (λ test. ap (still now) (sym (same_from_test s (stamp_of e) test)) ∙ here) i || stands_live-is es key now s here i

pub stands-live : (es : List Entry) (key : List ℕ) (now : ℕ) (s : Stamp) → still now s ≡ true → stands es key s ≡ list_any (same_stamp s) (live es key now)
stands-live es key now s here = sym (list_any-live es key now s ∙ stands_live-is es key now s here)

-- a timestamp inside isn't forgotten
pub inside_is_still : (s : Stamp) (now : ℕ) → is_inside s.timestamp now ≡ true → still now s ≡ true
inside_is_still s now inside = grind (arith, nat_tests)

-- a stamp that stands makes nothing more live
grown_there : (es : List Entry) (key : List ℕ) (now : ℕ) (owner : List ℕ) (s : Stamp) → stands es owner s ≡ true → grown key now owner s (live es key now) ≡ live es key now
grown_there es key now owner s there =
    cond_both (lives key now owner s) (add_stamp s (live es key now)) (live es key now) (λ x. x ≡ live es key now)
    (λ here.
    let signed = not (length s.nonce == 0) in
    let of_key = second_so signed (bytes_eq owner key) (first_so (signed && bytes_eq owner key) (still now s) here) in
    let at_key = ap (λ k. stands es k s) (sym ((bytes_decides owner key).0 of_key)) ∙ there in
    add_there s (live es key now) (sym (stands-live es key now s (second_so (signed && bytes_eq owner key) (still now s) here)) ∙ at_key))
    (λ _. refl)

-- an entry whose stamp stands already makes nothing more live
pub live-push_there : (es : List Entry) (e : Entry) (key : List ℕ) (now : ℕ) → stands es e.key (stamp_of e) ≡ true → live es key now ≡ live (es ++ e ∷ []) key now
live-push_there es e key now there = sym (live-push es e key now ∙ grown_there es key now e.key (stamp_of e) there)

-- ---- how many are live

length-add_stamp_le : (s : Stamp) (ts : List Stamp) → length (add_stamp s ts) ≤ length ts + 1
length-add_stamp_le s ts =
    cond_both (list_any (same_stamp s) ts) ts (insert_stamp s ts) (λ x. length x ≤ length ts + 1)
    (λ _. omega arith)
    (λ _. omega (arith, length-insert_stamp s ts))

-- one more entry makes at most one more live, and only under its own key
pub length-live_push : (es : List Entry) (e : Entry) (key : List ℕ) (now bound : ℕ) → length (live es key now) ≤ bound → (is_live key now e ≡ true → e.key ≡ key → length (live es key now) < bound) → length (live (es ++ e ∷ []) key now) ≤ bound
length-live_push es e key now bound within below =
    rw (live-push es e key now) (
    cond_both (is_live key now e) (add_stamp (stamp_of e) (live es key now)) (live es key now) (λ x. length x ≤ bound)
    (λ here.
    let owner = (is_of_key_parts key e (first_so (is_of_key key e) (still now (stamp_of e)) here)).1 in
    omega (arith, length-add_stamp_le (stamp_of e) (live es key now), below here owner))
    (λ _. within))
