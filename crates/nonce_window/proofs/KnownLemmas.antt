-- What a window knows, as it grows and as minutes pass.
use Rattle.std.proofs.Common.{◌≡◌, ◌≤◌, ◌<◌, ◌+◌, ◌-◌, ◌^◌, ◌/◌, ℕ, Bool, true, false, true≢false, ◌&&◌, ◌||◌, ◌==◌, not, cond, nat_le, List, [], ◌∷◌, ◌++◌, length, filter, count_by, bytes_eq, refl, sym, ap, ◌∙◌, subst, arith, ⊎_elim}
use Rattle.std.specs.Cmp.{first_so, second_so}
use Rattle.std.specs.Cmp.Lexicographic.{bytes_decides}
use Rattle.std.specs.List.{list_any, AllByRecursion}
use Rattle.std.proofs.lemmas.Bool.{cond-true, cond-false, cond_both, cases_Bool, false_from_ne_true, or_parts}
use Rattle.std.proofs.lemmas.Bool.Decides.{nat_tests}
use Rattle.std.proofs.lemmas.List.Folds.{list_any-append}
use Rattle.std.proofs.lemmas.List.Sums.{sum_by-cons, sum_by-append}
use Rattle.lti_machine.specs.declared.entry.Entry.{Entry}
use Rattle.lti_machine.specs.Nonces.{Stamp, stamp_of, same_stamp, add_stamp, insert_stamp, is_signed, is_of_key, is_live, live, uses, stands}
use Rattle.lti_machine.proofs.LiveLemmas.{same_from_test, list_any-live, is_of_key_parts, length-insert_stamp}
use Rattle.lti_machine.proofs.UsedLemmas.{same_stamps, rises_live}
use Rattle.nonce_window.specs.Added.{IsAdded}
use Rattle.nonce_window.specs.Fresh.{first_at, is_fresh, IsKnown, IsNext}
use Rattle.nonce_window.proofs.AddedLemmas.{added-any}
use Rattle.nonce_window.proofs.LaterLemmas.{still}
use Rattle.nonce_window.proofs.PushLemmas.{live-push, stands-live, grown}
use Rattle.nonce_window.proofs.LawLemmas.{live-filter}
use Rattle.nonce_window.proofs.TableLemmas.{all_left, all_right, all_join}
use Rattle.nonce_window.proofs.SoundLemmas.{count_same}

-- ---- counts

one : {X : Type 0} → (X → Bool) → X → ℕ
one p x = cond {A = ℕ} (p x) 1 0

pub count-append : {X : Type 0} (p : X → Bool) (xs ys : List X) → count_by p (xs ++ ys) ≡ count_by p xs + count_by p ys
count-append p xs ys = sum_by-append (λ x. cond {A = ℕ} (p x) 1 0) xs ys

pub count-cons : {X : Type 0} (p : X → Bool) (x : X) (xs : List X) → count_by p (x ∷ xs) ≡ cond {A = ℕ} (p x) 1 0 + count_by p xs
count-cons p x xs = sum_by-cons (λ x. cond {A = ℕ} (p x) 1 0) x xs

pub count-added : {X : Type 0} (p : X → Bool) (xs ys : List X) (x : X) → IsAdded xs x ys → count_by p ys ≡ count_by p xs + cond {A = ℕ} (p x) 1 0
count-added p xs ys x added =
    omega (arith, ap (count_by p) added.was, ap (count_by p) added.is, count-append p added.front added.back, count-append p added.front (x ∷ added.back), count-cons p x added.back)

-- what passes the one test passes the other
pub count-filter : {X : Type 0} (p keeps : X → Bool) → ((x : X) → p x ≡ true → keeps x ≡ true) → (xs : List X) → count_by p (filter keeps xs) ≡ count_by p xs
count-filter p keeps kept [] = refl
count-filter p keeps kept (x ∷ xs) =
    cond_both (keeps x) (x ∷ filter keeps xs) (filter keeps xs) (λ l. count_by p l ≡ count_by p (x ∷ xs))
    (λ _. omega (arith, count-cons p x (filter keeps xs), count-cons p x xs, count-filter p keeps kept xs))
    (λ out. let no : p x ≡ false = false_from_ne_true (p x) (λ yes. true≢false (sym (kept x yes) ∙ out)) in
    omega (arith, count-cons p x xs, ap (λ b. cond {A = ℕ} b 1 0) no, count-filter p keeps kept xs))

pub count-filter_le : {X : Type 0} (p keeps : X → Bool) (xs : List X) → count_by p (filter keeps xs) ≤ count_by p xs
count-filter_le p keeps [] = omega arith
count-filter_le p keeps (x ∷ xs) =
    cond_both (keeps x) (x ∷ filter keeps xs) (filter keeps xs) (λ l. count_by p l ≤ count_by p (x ∷ xs))
    (λ _. omega (arith, count-cons p x (filter keeps xs), count-cons p x xs, count-filter_le p keeps xs))
    (λ _. omega (arith, count-cons p x xs, count-filter_le p keeps xs))

pub any-filter : {X : Type 0} (p keeps : X → Bool) (xs : List X) → list_any p xs ≡ false → list_any p (filter keeps xs) ≡ false
any-filter p keeps [] none = refl
any-filter p keeps (x ∷ xs) none =
    let parts = or_parts (p x) (list_any p xs) none in
    cond_both (keeps x) (x ∷ filter keeps xs) (filter keeps xs) (λ l. list_any p l ≡ false)
    (λ _. (λ i. parts.0 i || any-filter p keeps xs parts.1 i))
    (λ _. any-filter p keeps xs parts.1)

all-added : {X : Type 0} (P : X → Type 0) (xs ys : List X) (x : X) → IsAdded xs x ys → AllByRecursion P xs → P x → AllByRecursion P ys
all-added P xs ys x added all here =
    let old = subst (AllByRecursion P) added.was all in
    subst (AllByRecursion P) (sym added.is) (all_join P added.front (x ∷ added.back) (all_left P added.front added.back old) (here, all_right P added.front added.back old))

-- ---- one more entry, wherever it stands

pub live-added : (es fs : List Entry) (e : Entry) → IsAdded es e fs → (key : List ℕ) (now : ℕ) → live fs key now ≡ live (es ++ e ∷ []) key now
live-added es fs e added key now =
    same_stamps (live fs key now) (live (es ++ e ∷ []) key now) (rises_live fs key now) (rises_live (es ++ e ∷ []) key now)
    (λ q. let test = λ (x : Entry). is_live key now x && same_stamp q (stamp_of x) in
    list_any-live fs key now q ∙ added-any test es fs e added ∙ turned (test e) (list_any test es)
    ∙ sym (list_any-append test es (e ∷ [])) ∙ sym (list_any-live (es ++ e ∷ []) key now q))
  where
    turned : (a b : Bool) → (a || b) ≡ (b || (a || false))
    turned true true = refl
    turned true false = refl
    turned false true = refl
    turned false false = refl

module _ (known after : List Entry) (high : ℕ) (e : Entry) (is : IsKnown known high) (next : IsNext known high e) (added : IsAdded known e after) where
  alone_after : (key : List ℕ) (now : ℕ) → high ≤ now → length (live after key now) ≡ count_by (is_live key now) after
  alone_after key now h =
      let same = ap length (live-added known after e added key now ∙ live-push known e key now) in
      let more = count-added (is_live key now) known after e added in
      let old = is.alone key now h in
      ⊎_elim
      (λ lives.
      let owner = (is_of_key_parts key e (first_so (is_of_key key e) (still now (stamp_of e)) lives)).1 in
      let missing : list_any (same_stamp (stamp_of e)) (live known key now) ≡ false =
      sym (stands-live known key now (stamp_of e) (second_so (is_of_key key e) (still now (stamp_of e)) lives)) ∙ ap (λ k. stands known k (stamp_of e)) (sym owner) ∙ next.new in
      let longer : length (grown key now e.key (stamp_of e) (live known key now)) ≡ length (live known key now) + 1 =
      ap length (cond-true (is_live key now e) (add_stamp (stamp_of e) (live known key now)) (live known key now) lives
      ∙ cond-false (list_any (same_stamp (stamp_of e)) (live known key now)) (live known key now) (insert_stamp (stamp_of e) (live known key now)) missing)
      ∙ length-insert_stamp (stamp_of e) (live known key now) in
      omega (arith, same, more, old, longer, ap (λ b. cond {A = ℕ} b 1 0) lives))
      (λ dead.
      let stays : length (grown key now e.key (stamp_of e) (live known key now)) ≡ length (live known key now) =
      ap length (cond-false (is_live key now e) (add_stamp (stamp_of e) (live known key now)) (live known key now) dead) in
      omega (arith, same, more, old, stays, ap (λ b. cond {A = ℕ} b 1 0) dead))
      (cases_Bool (is_live key now e))

  few_after : (key : List ℕ) → count_by (is_of_key key) after < 2 ^ 32
  few_after key =
      let more = count-added (is_of_key key) known after e added in
      ⊎_elim
      (λ own.
      let owner = (is_of_key_parts key e own).1 in
      let room = subst (λ k. count_by (is_of_key k) known < 2 ^ 32 - 1) owner next.room in
      omega (arith, more, room, ap (λ b. cond {A = ℕ} b 1 0) own))
      (λ other. omega (arith, more, is.few key, ap (λ b. cond {A = ℕ} b 1 0) other))
      (cases_Bool (is_of_key key e))

  pub known_added : IsKnown after high
  known_added = record {
    alone = alone_after;
    few = few_after;
    signed = all-added (λ x. is_signed x ≡ true) known after e added is.signed next.signed;
    fresh = all-added (λ x. first_at high ≤ x.timestamp / 60) known after e added is.fresh next.fresh;
  }

-- ---- what is live is counted

fresh_live : (now : ℕ) (key : List ℕ) (e : Entry) → is_live key now e ≡ (is_of_key key e && nat_le (first_at now) (e.timestamp / 60))
fresh_live now key e = ap (λ b. is_of_key key e && b) (grind (arith, nat_tests))

pub count_live : (known : List Entry) (high now : ℕ) (key : List ℕ) → IsKnown known high → high ≤ now → count_by (λ e. is_of_key key e && nat_le (first_at now) (e.timestamp / 60)) known ≡ length (live known key now)
count_live known high now key is h =
    sym (is.alone key now h ∙ count_same (is_live key now) (λ e. is_of_key key e && nat_le (first_at now) (e.timestamp / 60)) (fresh_live now key) known)

all_fresh : (known : List Entry) (high : ℕ) (key : List ℕ) → AllByRecursion (λ e. first_at high ≤ e.timestamp / 60) known → count_by (is_live key high) known ≡ count_by (is_of_key key) known
all_fresh [] high key fresh = refl
all_fresh (e ∷ es) high key fresh =
    let here : nat_le (first_at high) (e.timestamp / 60) ≡ true = grind (arith, nat_tests, fresh.0) in
    let same : is_live key high e ≡ is_of_key key e = fresh_live high key e ∙ ap (λ b. is_of_key key e && b) here ∙ and_true (is_of_key key e) in
    omega (arith, count-cons (is_live key high) e es, count-cons (is_of_key key) e es, ap (λ b. cond {A = ℕ} b 1 0) same, all_fresh es high key fresh.1)
  where
    and_true : (b : Bool) → (b && true) ≡ b
    and_true true = refl
    and_true false = refl

-- at its moment all that is known is live
pub count_all : (known : List Entry) (high : ℕ) (key : List ℕ) → IsKnown known high → count_by (is_of_key key) known ≡ length (live known key high)
count_all known high key is = sym (is.alone key high (omega arith) ∙ all_fresh known high key is.fresh)

-- ---- minutes pass

pub fresh_kept : (later : ℕ) (e : Entry) → is_live e.key later e ≡ true → is_fresh later e ≡ true
fresh_kept later e lives = second_so (is_of_key e.key e) (is_fresh later e) (sym (fresh_live later e.key e) ∙ lives)

pub live-fresh : (es : List Entry) (key : List ℕ) (later now : ℕ) → later ≤ now → live (filter (is_fresh later) es) key now ≡ live es key now
live-fresh es key later now h = live-filter (is_fresh later) later (fresh_kept later) es key now h

earlier : (later now : ℕ) (key : List ℕ) (e : Entry) → later ≤ now → is_live key now e ≡ true → is_fresh later e ≡ true
earlier later now key e h lives =
    let fresh = second_so (is_of_key key e) (nat_le (first_at now) (e.timestamp / 60)) (sym (fresh_live now key e) ∙ lives) in
    grind (arith, nat_tests)

all-fresh : (es : List Entry) (later : ℕ) → AllByRecursion (λ e. first_at later ≤ e.timestamp / 60) (filter (is_fresh later) es)
all-fresh [] later = tt
all-fresh (e ∷ es) later =
    cond_both (is_fresh later e) (e ∷ filter (is_fresh later) es) (filter (is_fresh later) es) (AllByRecursion (λ x. first_at later ≤ x.timestamp / 60))
    (λ yes. (grind (arith, nat_tests), all-fresh es later))
    (λ _. all-fresh es later)

all-filter : {X : Type 0} (P : X → Type 0) (keeps : X → Bool) (xs : List X) → AllByRecursion P xs → AllByRecursion P (filter keeps xs)
all-filter P keeps [] all = tt
all-filter P keeps (x ∷ xs) all =
    cond_both (keeps x) (x ∷ filter keeps xs) (filter keeps xs) (AllByRecursion P)
    (λ _. (all.0, all-filter P keeps xs all.1))
    (λ _. all-filter P keeps xs all.1)

pub known_later : (known : List Entry) (high later : ℕ) → high ≤ later → IsKnown known high → IsKnown (filter (is_fresh later) known) later
known_later known high later h is = record {
  alone = λ key now after.
      ap length (live-fresh known key later now after) ∙ is.alone key now (omega (arith, h, after))
      ∙ sym (count-filter (is_live key now) (is_fresh later) (λ e. earlier later now key e after) known);
  few = λ key. omega (arith, is.few key, count-filter_le (is_of_key key) (is_fresh later) known);
  signed = all-filter (λ e. is_signed e ≡ true) (is_fresh later) known is.signed;
  fresh = all-fresh known later;
}

pub next_later : (known : List Entry) (high later : ℕ) (e : Entry) → IsNext known high e → is_fresh later e ≡ true → IsNext (filter (is_fresh later) known) later e
next_later known high later e next fresh = record {
  signed = next.signed;
  fresh = grind (arith, nat_tests);
  new = any-filter (uses e.key (stamp_of e)) (is_fresh later) known next.new;
  room = omega (arith, next.room, count-filter_le (is_of_key e.key) (is_fresh later) known);
}

-- ---- two that come in

flipped : (x e : Entry) → uses e.key (stamp_of e) x ≡ false → uses x.key (stamp_of x) e ≡ false
flipped x e other = false_from_ne_true (uses x.key (stamp_of x) e) (λ h.
    let parts = is_of_key_parts x.key e (first_so (is_of_key x.key e) (same_stamp (stamp_of x) (stamp_of e)) h) in
    let stamps = same_from_test (stamp_of x) (stamp_of e) (second_so (is_of_key x.key e) (same_stamp (stamp_of x) (stamp_of e)) h) in
    let signed : is_signed x ≡ true = ap (λ (s : Stamp). not (length s.nonce == 0)) stamps ∙ parts.0 in
    let keys : bytes_eq x.key e.key ≡ true = (bytes_decides x.key e.key).1 (sym parts.1) in
    let same : same_stamp (stamp_of e) (stamp_of x) ≡ true = ap (λ s. same_stamp (stamp_of e) s) stamps ∙ same_itself (stamp_of e) in
    let both : uses e.key (stamp_of e) x ≡ true = λ i. (signed i && keys i) && same i in
    true≢false (sym both ∙ other))
  where
    same_itself : (s : Stamp) → same_stamp s s ≡ true
    same_itself s =
        let numbers : (s.timestamp == s.timestamp) ≡ true = grind (arith, nat_tests) in
        λ i. numbers i && (bytes_decides s.nonce s.nonce).1 refl i

pub next_put : (known after : List Entry) (high : ℕ) (p e : Entry) → IsNext known high p → IsAdded known e after → stands (known ++ p ∷ []) e.key (stamp_of e) ≡ false → count_by (is_of_key e.key) (known ++ p ∷ []) < 2 ^ 32 - 1 → IsNext after high p
next_put known after high p e next added none below =
    let parts = or_parts (stands known e.key (stamp_of e)) (uses e.key (stamp_of e) p || false) (sym (list_any-append (uses e.key (stamp_of e)) known (p ∷ [])) ∙ none) in
    let apart = flipped p e (or_parts (uses e.key (stamp_of e) p) false parts.1).0 in
    record {
      signed = next.signed;
      fresh = next.fresh;
      new = added-any (uses p.key (stamp_of p)) known after e added ∙ (λ i. apart i || next.new i);
      room =
          let more = count-added (is_of_key p.key) known after e added in
          ⊎_elim
          (λ own.
          let owner = (is_of_key_parts p.key e own).1 in
          let all = count-append (is_of_key p.key) known (p ∷ []) in
          let last = count-cons (is_of_key p.key) p [] in
          let self : is_of_key p.key p ≡ true = (λ i. next.signed i && (bytes_decides p.key p.key).1 refl i) in
          let bound = subst (λ k. count_by (is_of_key k) (known ++ p ∷ []) < 2 ^ 32 - 1) owner below in
          omega (arith, more, all, last, bound, ap (λ b. cond {A = ℕ} b 1 0) own, ap (λ b. cond {A = ℕ} b 1 0) self))
          (λ other. omega (arith, more, next.room, ap (λ b. cond {A = ℕ} b 1 0) other))
          (cases_Bool (is_of_key p.key e));
    }

pub known_none : IsKnown [] 0
known_none = record { alone = λ key now _. unfold live in refl; few = λ key. omega arith; signed = tt; fresh = tt }
