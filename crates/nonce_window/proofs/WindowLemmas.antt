-- What the calls of a window keep.
use Rattle.std.proofs.Common.{◌≡◌, ◌≤◌, ◌<◌, ◌+◌, ◌-◌, ◌^◌, ◌/◌, ℕ, max, Bool, true, false, ◌&&◌, ◌||◌, ◌==◌, not, cond, nat_le, List, [], ◌∷◌, ◌++◌, length, map, filter, count_by, bytes_eq, append-nil, refl, sym, ap, ◌∙◌, subst, arith, Option, Some, None, IfSome, is_some, IsSome}
use Rattle.std.specs.List.{AllByRecursion}
use Rattle.std.proofs.lemmas.Bool.{cond-true, cond-false, cond_both, or_parts, false≢true}
use Rattle.std.proofs.lemmas.Bool.Decides.{nat_tests}
use Rattle.std.proofs.lemmas.List.Folds.{list_any-append}
use Rattle.std.proofs.lemmas.List.Elements.{filter-append}
use Rattle.lti_machine.specs.declared.entry.Entry.{Entry}
use Rattle.lti_machine.specs.Nonces.{Stamp, stamp_of, add_stamp, is_signed, is_of_key, is_live, is_inside, live, uses, stands}
use Rattle.std.proofs.lemmas.List.{map-append}
use Rattle.lti_machine.specs.Used.{used_of, lives}
use Rattle.nonce_window.specs.Triples.{used_of_triple, plain_of}
use Rattle.nonce_window.specs.declared.triple.Triple.{Triple}
use Rattle.nonce_window.specs.Window.{WindowValue, Holds}
use Rattle.nonce_window.specs.Added.{IsAdded}
use Rattle.nonce_window.specs.Nonces.{plain}
use Rattle.nonce_window.specs.Fresh.{first_at, is_fresh, signed, staying, IsKnown, IsNext}
use Rattle.nonce_window.specs.Last.{with_last}
use Rattle.nonce_window.specs.Inside.{ready_of}
use Rattle.nonce_window.specs.Changes.{IsSettled, passed}
use Rattle.nonce_window.proofs.AddedLemmas.{added-last, added-between}
use Rattle.nonce_window.proofs.PushLemmas.{live-push}
use Rattle.nonce_window.proofs.LaterLemmas.{still, length-live_later}
use Rattle.nonce_window.proofs.KeyedLemmas.{found_or}
use Rattle.nonce_window.proofs.HeldLemmas.{IsNew, same_later, same_pushed}
use Rattle.nonce_window.proofs.KnownLemmas.{known_added, next_later, next_put, live-added, live-fresh, count_live, count_all, count-append, count-cons, any-filter}

-- ---- the last one

pub with_last_known : (nonces : List Entry) (last : Option Entry) (high : ℕ) → IsKnown nonces high → IfSome last (IsNext nonces high) → IsKnown (with_last nonces last) high
with_last_known nonces None high is next = is
with_last_known nonces (Some e) high is next = known_added nonces (nonces ++ e ∷ []) high e is next (added-last nonces e)

-- the key of one that comes in
pub live_settled : (nonces : List Entry) (last : Option Entry) (after : List Entry) → IsSettled nonces last after → (key : List ℕ) (now : ℕ) → live after key now ≡ live (with_last nonces last) key now
live_settled nonces None after is key now = ap (λ es. live es key now) is
live_settled nonces (Some e) after added key now =
    live-added nonces after (plain e.key (stamp_of e)) added key now ∙ same_pushed nonces nonces (plain e.key (stamp_of e)) e key now refl refl refl

pub known_settled : (nonces : List Entry) (last : Option Entry) (after : List Entry) (high : ℕ) → IsKnown nonces high → IfSome last (IsNext nonces high) → IsSettled nonces last after → IsKnown after high
known_settled nonces None after high is next settled = subst (λ es. IsKnown es high) (sym settled) is
known_settled nonces (Some e) after high is next added =
    known_added nonces after high (plain e.key (stamp_of e)) is (record { signed = next.signed; fresh = next.fresh; new = next.new; room = next.room }) added

pub some_ready : (ready : Option Entry) (key : List ℕ) (stamp : Stamp) → ready_of ready ≡ Some (key, stamp) → IsSome ready
some_ready None key stamp is = absurd (false≢true (ap is_some is))
some_ready (Some e) key stamp is = refl

-- ---- minutes pass

pub next_passed : (nonces : List Entry) (last : Option Entry) (high later : ℕ) → IfSome last (IsNext nonces high) → IfSome (staying (first_at later) last) (IsNext (filter (is_fresh later) nonces) later)
next_passed nonces None high later next = tt
next_passed nonces (Some e) high later next =
    cond_both (nat_le (first_at later) (e.timestamp / 60)) (Some e) None (λ o. IfSome o (IsNext (filter (is_fresh later) nonces) later))
    (λ fresh. next_later nonces high later e next fresh)
    (λ _. tt)

pub idle_passed : (last : Option Entry) (first : ℕ) → last ≡ None → staying first last ≡ None
idle_passed last first none = ap (staying first) none

pub with_last_passed : (nonces : List Entry) (last : Option Entry) (first : ℕ) → with_last (filter (λ e. nat_le first (e.timestamp / 60)) nonces) (staying first last) ≡ filter (λ e. nat_le first (e.timestamp / 60)) (with_last nonces last)
with_last_passed nonces None first = refl
with_last_passed nonces (Some e) first =
    cond_both (nat_le first (e.timestamp / 60)) (Some e) None (λ o. with_last (filter test nonces) o ≡ filter test (nonces ++ e ∷ []))
    (λ yes. ap (λ l. filter test nonces ++ l) (sym (cond-true (nat_le first (e.timestamp / 60)) (e ∷ []) [] yes)) ∙ sym (filter-append test nonces (e ∷ [])))
    (λ no. sym (append-nil (filter test nonces)) ∙ ap (λ l. filter test nonces ++ l) (sym (cond-false (nat_le first (e.timestamp / 60)) (e ∷ []) [] no)) ∙ sym (filter-append test nonces (e ∷ [])))
  where
    test : Entry → Bool
    test = λ x. nat_le first (x.timestamp / 60)

-- a window that passes to a later moment holds what it held
pub passed_holds : (window : WindowValue) (moment : ℕ) (entries : List Entry) → Holds window entries → Holds (passed window moment) entries
passed_holds window moment entries held = λ key.
    live-fresh window.known key (max window.high moment) (max window.high moment) (omega arith)
    ∙ same_later window.known entries key window.high (max window.high moment) (omega arith) (held key)

-- ---- an admitted nonce

pub new_next : (known nonces : List Entry) (now limit : ℕ) (key : List ℕ) (stamp : Stamp) (e : Entry) → nonces ≡ filter (is_fresh now) known → IsKnown nonces now → IsNew known key stamp now limit → limit < 2 ^ 32 → e.key ≡ key → stamp_of e ≡ stamp → is_signed e ≡ true → IsNext nonces now e
new_next known nonces now limit key stamp e left is new fits keys stamps signed = record {
  signed = signed;
  fresh = let time = ap (λ (s : Stamp). s.timestamp) stamps in let inside = new.inside in fresh_from stamp now e.timestamp time inside;
  new = (λ i. stands (left i) (keys i) (stamps i)) ∙ any-filter (uses key stamp) (is_fresh now) known new.fresh;
  room =
      let all = count_all nonces now e.key is in
      let same = ap length ((λ i. live (left i) (keys i) now) ∙ live-fresh known key now now (omega arith)) in
      omega (arith, all, same, new.below, fits);
}
  where
    fresh_from : (stamp : Stamp) (now t : ℕ) → t ≡ stamp.timestamp → is_inside stamp.timestamp now ≡ true → first_at now ≤ t / 60
    fresh_from stamp now t same inside = grind (arith, nat_tests)

-- the entry that was made ready has this key and this stamp
pub record IsOf (entry : Entry) (key : List ℕ) (stamp : Stamp) : Type 0 where
  pub keys : entry.key ≡ key
  pub stamps : stamp_of entry ≡ stamp

abbrev key_or : List ℕ → Option (List ℕ × Stamp) → List ℕ
key_or key None = key
key_or key (Some p) = p.0

abbrev stamp_or : Stamp → Option (List ℕ × Stamp) → Stamp
stamp_or stamp None = stamp
stamp_or stamp (Some p) = p.1

pub next_ready : (ready : Option Entry) (known nonces : List Entry) (now limit : ℕ) (key : List ℕ) (stamp : Stamp) → ready_of ready ≡ Some (key, stamp) → nonces ≡ filter (is_fresh now) known → IsKnown nonces now → IsNew known key stamp now limit → limit < 2 ^ 32 → IfSome (signed ready) (IsNext nonces now)
next_ready None known nonces now limit key stamp is left sound new fits = tt
next_ready (Some e) known nonces now limit key stamp is left sound new fits =
    cond_both (is_signed e) (Some e) None (λ o. IfSome o (IsNext nonces now))
    (λ yes. new_next known nonces now limit key stamp e left sound new fits (ap (key_or key) is) (ap (stamp_or stamp) is) yes)
    (λ _. tt)

pub live_ready : (ready : Option Entry) (nonces entries : List Entry) (entry : Entry) (now : ℕ) (key : List ℕ) (stamp : Stamp) → ready_of ready ≡ Some (key, stamp) → entry.key ≡ key → stamp_of entry ≡ stamp → (k : List ℕ) → live nonces k now ≡ live entries k now → live (with_last nonces (signed ready)) k now ≡ live (entries ++ entry ∷ []) k now
live_ready None nonces entries entry now key stamp is keys stamps k same = absurd (false≢true (ap is_some is))
live_ready (Some e) nonces entries entry now key stamp is keys stamps k same =
    let e_key = ap (key_or key) is in
    let e_stamp = ap (stamp_or stamp) is in
    cond_both (is_signed e) (Some e) None (λ o. live (with_last nonces o) k now ≡ live (entries ++ entry ∷ []) k now)
    (λ _. same_pushed nonces entries e entry k now same (e_key ∙ sym keys) (e_stamp ∙ sym stamps))
    (λ no.
    let unsigned : is_signed entry ≡ false = ap (λ (s : Stamp). not (length s.nonce == 0)) (stamps ∙ sym e_stamp) ∙ no in
    same ∙ sym (live-push entries entry k now ∙ ap (λ b. cond (b && bytes_eq entry.key k && still now (stamp_of entry)) (add_stamp (stamp_of entry) (live entries k now)) (live entries k now)) unsigned))

-- ---- a loaded nonce

-- it is forgotten already
pub live_forgotten : (entries : List Entry) (entry : Entry) (now : ℕ) → entry.timestamp / 60 < first_at now → (k : List ℕ) → live (entries ++ entry ∷ []) k now ≡ live entries k now
live_forgotten entries entry now gone k =
    let dead : is_live k now entry ≡ false = ap (λ b. is_of_key k entry && b) (grind (arith, nat_tests)) ∙ and_none (is_of_key k entry) in
    live-push entries entry k now ∙ cond-false (is_live k now entry) (add_stamp (stamp_of entry) (live entries k now)) (live entries k now) dead
  where
    and_none : (b : Bool) → (b && false) ≡ false
    and_none true = refl
    and_none false = refl

-- it comes in beside the last one
pub with_last_added : (nonces after : List Entry) (last : Option Entry) (e : Entry) → IsAdded nonces e after → IsAdded (with_last nonces last) e (with_last after last)
with_last_added nonces after None e added = added
with_last_added nonces after (Some p) e added = added-between [] nonces after (p ∷ []) e added

pub stands_nonces : (nonces : List Entry) (last : Option Entry) (key : List ℕ) (stamp : Stamp) → stands (with_last nonces last) key stamp ≡ false → stands nonces key stamp ≡ false
stands_nonces nonces None key stamp none = none
stands_nonces nonces (Some p) key stamp none = (or_parts (stands nonces key stamp) (uses key stamp p || false) (sym (list_any-append (uses key stamp) nonces (p ∷ [])) ∙ none)).0

pub count_nonces : (nonces : List Entry) (last : Option Entry) (key : List ℕ) → count_by (is_of_key key) nonces ≤ count_by (is_of_key key) (with_last nonces last)
count_nonces nonces None key = omega arith
count_nonces nonces (Some p) key = omega (arith, count-append (is_of_key key) nonces (p ∷ []))

pub next_added : (nonces after : List Entry) (last : Option Entry) (high : ℕ) (e : Entry) → IfSome last (IsNext nonces high) → IsAdded nonces e after → stands (with_last nonces last) e.key (stamp_of e) ≡ false → count_by (is_of_key e.key) (with_last nonces last) < 2 ^ 32 - 1 → IfSome last (IsNext after high)
next_added nonces after None high e next added none below = tt
next_added nonces after (Some p) high e next added none below = next_put nonces after high p e next added none below

-- ---- how many are live

pub live_fits : (known : List Entry) (high now : ℕ) (key : List ℕ) → IsKnown known high → high ≤ now → length (live known key now) < 2 ^ 32
live_fits known high now key is h = omega (arith, is.few key, count_all known high key is, length-live_later known key high now h)

pub count_last : (nonces : List Entry) (last : Option Entry) (high now : ℕ) (key : List ℕ) → IsKnown nonces high → IfSome last (IsNext nonces high) → high ≤ now → length (live (with_last nonces last) key now) ≡ count_by (λ e. is_of_key key e && nat_le (first_at now) (e.timestamp / 60)) nonces + found_or 0 (λ e. cond {A = ℕ} (is_live key now e) 1 0) last
count_last nonces None high now key is next h = omega (arith, count_live nonces high now key is h)
count_last nonces (Some e) high now key is next h =
    let all = with_last_known nonces (Some e) high is next in
    omega (arith, all.alone key now h, is.alone key now h, count-append (is_live key now) nonces (e ∷ []), count-cons (is_live key now) e [], count_live nonces high now key is h)

-- ---- room for a loaded nonce

-- a key with room has it among all, and without the last one
pub put_room : (nonces : List Entry) (last : Option Entry) (high : ℕ) (key : List ℕ) → IsKnown nonces high → IfSome last (IsNext nonces high) → length (live (with_last nonces last) key high) < 2 ^ 32 - 1 → (count_by (is_of_key key) nonces < 2 ^ 32 - 1) × (count_by (is_of_key key) (with_last nonces last) < 2 ^ 32 - 1)
put_room nonces last high key is next room =
    let all = count_all (with_last nonces last) high key (with_last_known nonces last high is next) in
    (omega (arith, all, room, count_nonces nonces last key), omega (arith, all, room))

-- ---- all that is known

pub listed : (test : Entry → Bool) (nonces : List Entry) (last : Option Entry) → map used_of (filter test nonces) ++ map used_of (filter test (with_last [] last)) ≡ map used_of (filter test (with_last nonces last))
listed test nonces None = append-nil (map used_of (filter test nonces))
listed test nonces (Some e) = sym (map-append used_of (filter test nonces) (filter test (e ∷ []))) ∙ ap (map used_of) (sym (filter-append test nonces (e ∷ [])))

pub fresh_lives : (known : List Entry) (now : ℕ) → AllByRecursion (λ e. is_signed e ≡ true) known → filter (is_fresh now) known ≡ filter (lives now) known
fresh_lives [] now all = refl
fresh_lives (e ∷ es) now all =
    let same : is_fresh now e ≡ lives now e = grind (arith, nat_tests, all.0) in
    λ i. cond (same i) (e ∷ fresh_lives es now all.1 i) (fresh_lives es now all.1 i)

pub plain_used : (ts : List Triple) → map used_of_triple ts ≡ map used_of (map plain_of ts)
plain_used [] = refl
plain_used (t ∷ ts) = ap (λ l. used_of_triple t ∷ l) (plain_used ts)
