-- What the invariant of the nonces says of their table.
use Rattle.std.proofs.Common.{◌<◌, ◌≡◌, ◌≤◌, ◌+◌, ◌/◌, ◌%◌, ◌*◌, ◌&&◌, ◌∷◌, [], ◌++◌, ℕ, Bool, true, false, List, length, nat_eq, nat_le, count_by, filter, cond, Option, Some, None, subst, sym, ap, ◌∙◌, refl, arith, if◌then◌else◌}
use Rattle.std.specs.List.{AllByRecursion, list_any}
use Rattle.std.specs.Option.{IfSome}
use Rattle.std.proofs.lemmas.Bool.{cond-true, cond-false, cond_both}
use Rattle.std.proofs.lemmas.Bool.Decides.{nat_tests}
use Rattle.std.proofs.lemmas.List.Elements.{filter-append}
use Rattle.std.proofs.lemmas.List.Sums.{sum_by-cons}
use Rattle.lti_machine.specs.declared.entry.Entry.{Entry}
use Rattle.lti_machine.specs.Nonces.{Stamp, same_stamp, is_of_key}
use Rattle.nonce_window.specs.Keys.{key_at, IsNumber}
use Rattle.nonce_window.specs.Nonces.{Table, IsWithin, AreWithin, plain_in, entries_at, entries_of, count_at, total}
use Rattle.nonce_window.specs.InsideNonces.{IsSound}
use Rattle.nonce_window.specs.declared.nonces.Nonces.TheInside.{Inside}
use Rattle.nonce_window.proofs.TableLemmas.{IsGood, all_both, all_right, is_from, counts_found, minute_of}
use Rattle.nonce_window.proofs.ForgetLemmas.{stays}
use Rattle.nonce_window.proofs.KeyedLemmas.{found_or}

pub numbered : (inside : Inside) → IsSound inside → AllByRecursion (λ e. e.0.1 < length inside.keys) inside.table.entries
numbered inside sound =
    subst (λ n. AllByRecursion (λ (e : (ℕ × ℕ) × List Stamp). e.0.1 < n) inside.table.entries) sound.long sound.counted.numbered

pub good : (inside : Inside) → IsSound inside → AllByRecursion (IsGood inside.keys) inside.table.entries
good inside sound =
    all_both (λ e. e.0.1 < length inside.keys) AreWithin inside.table.entries (numbered inside sound) sound.table.within

-- ---- a stamp that comes in

pub count_same : {X : Type 0} (p q : X → Bool) → ((x : X) → p x ≡ q x) → (xs : List X) → count_by p xs ≡ count_by q xs
count_same p q same [] = refl
count_same p q same (x ∷ xs) =
    omega (arith, sum_by-cons (λ e. cond {A = ℕ} (p e) 1 0) x xs, sum_by-cons (λ e. cond {A = ℕ} (q e) 1 0) x xs, ap (λ b. cond {A = ℕ} b 1 0) (same x), count_same p q same xs)

-- what isn't found in a minute isn't in it
pub new_from : (o : Option (List Stamp)) (stamp : Stamp) → found_or false (list_any (same_stamp stamp)) o ≡ false → IfSome o (λ stamps. list_any (same_stamp stamp) stamps ≡ false)
new_from None stamp none = tt
new_from (Some ss) stamp none = none

pub room_from : (o : Option (List Stamp)) (bound : ℕ) → found_or 0 length o < bound → IfSome o (λ stamps. length stamps < bound)
room_from None bound below = tt
room_from (Some ss) bound below = below

-- as many of a key as beside its number
pub all_counted : (keys : List (List ℕ)) (key : List ℕ) (number : ℕ) → IsNumber keys key (Some number) → (table : Table) → AllByRecursion (IsGood keys) table → count_by (is_of_key key) (entries_of keys table) ≡ total number 0 table
all_counted keys key number is table ok =
    count_same (is_of_key key) (is_from keys key number is 0) (λ e. grind (arith, nat_tests)) (entries_of keys table) ∙ counts_found keys key number is 0 table ok

-- a timestamp is its minute and its second
pub same_time : (t : ℕ) → t / 60 * 60 + t % 60 ≡ t
same_time t = omega arith

-- ---- from a minute on

pub entries_from : (keys : List (List ℕ)) (number first : ℕ) (table : Table) → AllByRecursion AreWithin table → AllByRecursion (λ e. first ≤ e.timestamp / 60) (entries_of keys table) → total number 0 table ≡ total number first table
entries_from keys number first [] within from = refl
entries_from keys number first ((p, []) ∷ es) within from =
    omega (arith, sum_by-cons (count_at number 0) (p, []) es, sum_by-cons (count_at number first) (p, []) es, empty (nat_eq p.1 number && nat_le 0 p.0), empty (nat_eq p.1 number && nat_le first p.0), entries_from keys number first es within.1 from)
  where
    empty : (b : Bool) → ◌≡◌ {A = ℕ} (if b then 0 else 0) 0
    empty true = refl
    empty false = refl
entries_from keys number first ((p, s ∷ ss) ∷ es) within from =
    let minute = minute_of p.0 s.timestamp within.0.0.0 in
    let one : count_at number 0 (p, s ∷ ss) ≡ count_at number first (p, s ∷ ss) = grind (arith, nat_tests, from.0, minute) in
    omega (arith, sum_by-cons (count_at number 0) (p, s ∷ ss) es, sum_by-cons (count_at number first) (p, s ∷ ss) es, one, entries_from keys number first es within.1 (all_right (λ (e : Entry). first ≤ e.timestamp / 60) (entries_at keys (p, s ∷ ss)) (entries_of keys es) from))

-- ---- what is forgotten

stays_at : (keys : List (List ℕ)) (first : ℕ) (p : ℕ × ℕ) (ss : List Stamp) (b : Bool) → nat_le first p.0 ≡ b → AllByRecursion (IsWithin p.0) ss → filter (λ e. nat_le first (e.timestamp / 60)) (entries_at keys (p, ss)) ≡ cond b (entries_at keys (p, ss)) []
stays_at keys first p [] true is within = refl
stays_at keys first p [] false is within = refl
stays_at keys first p (s ∷ ss) true is within =
    cond-true (nat_le first ((p.0 * 60 + s.timestamp) / 60)) (plain_in (key_at keys p.1) p.0 s ∷ filter (λ (e : Entry). nat_le first (e.timestamp / 60)) (entries_at keys (p, ss))) (filter (λ (e : Entry). nat_le first (e.timestamp / 60)) (entries_at keys (p, ss))) (ap (nat_le first) (minute_of p.0 s.timestamp within.0.0) ∙ is)
    ∙ ap (λ l. plain_in (key_at keys p.1) p.0 s ∷ l) (stays_at keys first p ss true is within.1)
stays_at keys first p (s ∷ ss) false is within =
    cond-false (nat_le first ((p.0 * 60 + s.timestamp) / 60)) (plain_in (key_at keys p.1) p.0 s ∷ filter (λ (e : Entry). nat_le first (e.timestamp / 60)) (entries_at keys (p, ss))) (filter (λ (e : Entry). nat_le first (e.timestamp / 60)) (entries_at keys (p, ss))) (ap (nat_le first) (minute_of p.0 s.timestamp within.0.0) ∙ is)
    ∙ stays_at keys first p ss false is within.1

pub entries_left : (keys : List (List ℕ)) (first : ℕ) (table : Table) → AllByRecursion AreWithin table → entries_of keys (filter (stays first) table) ≡ filter (λ e. nat_le first (e.timestamp / 60)) (entries_of keys table)
entries_left keys first [] within = refl
entries_left keys first (e ∷ es) within =
    by (nat_le first e.0.0) refl (entries_left keys first es within.1) ∙ sym (filter-append (λ (x : Entry). nat_le first (x.timestamp / 60)) (entries_at keys e) (entries_of keys es))
  where
    by : (b : Bool) → nat_le first e.0.0 ≡ b → entries_of keys (filter (stays first) es) ≡ filter (λ x. nat_le first (x.timestamp / 60)) (entries_of keys es) → entries_of keys (filter (stays first) (e ∷ es)) ≡ filter (λ x. nat_le first (x.timestamp / 60)) (entries_at keys e) ++ filter (λ x. nat_le first (x.timestamp / 60)) (entries_of keys es)
    by true is rest =
        ap (entries_of keys) (cond-true (nat_le first e.0.0) (e ∷ filter (stays first) es) (filter (stays first) es) is)
        ∙ (λ i. sym (stays_at keys first e.0 e.1 true is within.0) i ++ rest i)
    by false is rest =
        ap (entries_of keys) (cond-false (nat_le first e.0.0) (e ∷ filter (stays first) es) (filter (stays first) es) is)
        ∙ (λ i. sym (stays_at keys first e.0 e.1 false is within.0) i ++ rest i)

pub within_left : (first : ℕ) (table : Table) → AllByRecursion AreWithin table → AllByRecursion AreWithin (filter (stays first) table)
within_left first [] within = tt
within_left first (e ∷ es) within =
    cond_both (nat_le first e.0.0) (e ∷ filter (stays first) es) (filter (stays first) es) (AllByRecursion AreWithin)
    (λ _. (within.0, within_left first es within.1))
    (λ _. within_left first es within.1)
