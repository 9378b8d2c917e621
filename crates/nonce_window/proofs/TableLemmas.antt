-- What a table of nonces tells.
use Rattle.std.proofs.Common.{◌≡◌, suc, ◌<◌, ◌≤◌, ◌+◌, ◌*◌, ◌/◌, ◌%◌, ℕ, Bool, true, false, ◌&&◌, ◌||◌, ◌==◌, nat_eq, nat_le, cond, List, [], ◌∷◌, ◌++◌, length, refl, sym, ap, ◌∙◌, arith, Some, None, bytes_eq, is_eq, if◌then◌else◌, count_by}
use Rattle.std.specs.Cmp.{unsigned_ties}
use Rattle.std.specs.Cmp.Lexicographic.{nat_list_eq_equiv}
use Rattle.std.specs.List.{list_any, sum_by, AllByRecursion}
use Rattle.std.specs.List.Sorted.{IsStrictlySortedBy}
use Rattle.std.specs.Map.{keys_of, lookup, IsKeyTest}
use Rattle.std.specs.BTreeMap.{is_at}
use Rattle.std.specs.Ordering.{nat_cmp, eq_by_cmp}
use Rattle.std.proofs.lemmas.Bool.{cond-true, cond-false, or_parts}
use Rattle.std.proofs.lemmas.Bool.Decides.{nat_tests}
use Rattle.std.proofs.lemmas.List.Folds.{list_any-append}
use Rattle.std.proofs.lemmas.List.Sums.{sum_by-cons, sum_by-append, sum_by-le-sum_by}
use Rattle.std.proofs.lemmas.Map.Keys.{IsDistinct-from_sorted}
use Rattle.std.proofs.lemmas.Map.Lookups.{exact_pairs, exact_unsigned}
use Rattle.std.proofs.lemmas.Map.Views.{tells_apart}
use Rattle.lti_machine.specs.declared.entry.Entry.{Entry}
use Rattle.lti_machine.specs.Nonces.{Stamp, same_stamp, uses, is_of_key, is_signed, stands}
use Rattle.lti_machine.proofs.StampLemmas.{is_eq-then}
use Rattle.nonce_window.specs.Keys.{key_at, IsNumber}
use Rattle.nonce_window.specs.Nonces.{Table, place_cmp, plain_in, entries_at, entries_of, count_at, total, IsWithin, AreWithin}
use Rattle.nonce_window.proofs.KeyedLemmas.{found_or, any_found, sum_found}

-- ---- places

-- the place is this one
abbrev pub is_place : ℕ × ℕ → ℕ × ℕ → Bool
is_place p = is_at (place_cmp p)

pub place_is : (p q : ℕ × ℕ) → is_place p q ≡ (nat_eq p.0 q.0 && nat_eq p.1 q.1)
place_is p q = is_eq-then (nat_cmp p.0 q.0) (nat_cmp p.1 q.1) ∙ (λ i. sym (unsigned_ties p.0 q.0) i && sym (unsigned_ties p.1 q.1) i)

pub same_place : (p q : ℕ × ℕ) → is_place p q ≡ true → p ≡ q
same_place p q is = tells_apart (exact_pairs nat_cmp nat_cmp exact_unsigned exact_unsigned) p q is

pub place_key : (p : ℕ × ℕ) → IsKeyTest (eq_by_cmp place_cmp) (is_place p)
place_key p x y is = ap (λ q. is_eq (place_cmp q y)) (same_place p x is)

-- ---- counts

module _ (number minute : ℕ) where
  -- what the place of the minute and the number adds
  here : (ℕ × ℕ) × List Stamp → ℕ
  here e = cond (is_place (minute, number) e.0) (length e.1) 0

  split : (e : (ℕ × ℕ) × List Stamp) → here e + count_at number (minute + 1) e ≡ count_at number minute e
  unfolding here
  split e =
      rw (place_is (minute, number) e.0) (grind (arith, nat_tests))

  later : (table : Table) → sum_by here table + total number (minute + 1) table ≡ total number minute table
  later [] = refl
  later (e ∷ es) =
      omega (arith, sum_by-cons here e es, sum_by-cons (count_at number (minute + 1)) e es, sum_by-cons (count_at number minute) e es, split e, later es)

  -- a count from a minute on, less what the key has in that minute, is the count from the next one on
  pub total_later : (table : Table) → IsStrictlySortedBy place_cmp (keys_of table) → found_or 0 length (lookup (is_place (minute, number)) table) + total number (minute + 1) table ≡ total number minute table
  unfolding here
  total_later table ordered =
      let found : sum_by here table ≡ found_or 0 length (lookup (is_place (minute, number)) table) =
      sum_found (eq_by_cmp place_cmp) (is_place (minute, number)) (place_key (minute, number)) here length
      (λ e out. cond-false (is_place (minute, number) e.0) (length e.1) 0 out)
      (λ e in_. cond-true (is_place (minute, number) e.0) (length e.1) 0 in_)
      table (IsDistinct-from_sorted place_cmp (keys_of table) ordered) in
      omega (arith, found, later table)

  some_of : (table : Table) → total number minute table ≤ total number 0 table
  some_of table = sum_by-le-sum_by (count_at number minute) (count_at number 0) table (λ e. grind (arith, nat_tests))

  -- a minute has no more than all
  pub found_le : (table : Table) → IsStrictlySortedBy place_cmp (keys_of table) → found_or 0 length (lookup (is_place (minute, number)) table) ≤ total number 0 table
  found_le table ordered = omega (arith, total_later table ordered, some_of table)

-- ---- facts over lists

pub all_both : {X : Type 0} (P Q : X → Type 0) (xs : List X) → AllByRecursion P xs → AllByRecursion Q xs → AllByRecursion (λ x. P x × Q x) xs
all_both P Q [] ps qs = tt
all_both P Q (x ∷ xs) ps qs = ((ps.0, qs.0), all_both P Q xs ps.1 qs.1)

pub all_weaker : {X : Type 0} (P Q : X → Type 0) → ((x : X) → P x → Q x) → (xs : List X) → AllByRecursion P xs → AllByRecursion Q xs
all_weaker P Q weaker [] ps = tt
all_weaker P Q weaker (x ∷ xs) ps = (weaker x ps.0, all_weaker P Q weaker xs ps.1)

pub all_left : {X : Type 0} (P : X → Type 0) (xs ys : List X) → AllByRecursion P (xs ++ ys) → AllByRecursion P xs
all_left P [] ys all = tt
all_left P (x ∷ xs) ys all = (all.0, all_left P xs ys all.1)

pub all_right : {X : Type 0} (P : X → Type 0) (xs ys : List X) → AllByRecursion P (xs ++ ys) → AllByRecursion P ys
all_right P [] ys all = all
all_right P (x ∷ xs) ys all = all_right P xs ys all.1

pub all_join : {X : Type 0} (P : X → Type 0) (xs ys : List X) → AllByRecursion P xs → AllByRecursion P ys → AllByRecursion P (xs ++ ys)
all_join P [] ys left right = right
all_join P (x ∷ xs) ys left right = (left.0, all_join P xs ys left.1 right)

-- ---- the entries that a table stands for

pub time_split : (t m s : ℕ) → s < 60 → (t == m * 60 + s) ≡ (nat_eq (t / 60) m && (t % 60 == s))
time_split t m s h = grind (arith, nat_tests)

pub minute_of : (m s : ℕ) → s < 60 → (m * 60 + s) / 60 ≡ m
minute_of m s h = omega (arith, h)

signed_is : (s : Stamp) (key : List ℕ) (m : ℕ) → IsWithin m s → is_signed (plain_in key m s) ≡ true
signed_is s key m within = grind (arith, nat_tests, within.1)

module _ (keys : List (List ℕ)) where
  -- the entry's number is that of a key, and its stamps are ones within a minute
  abbrev pub IsGood : (ℕ × ℕ) × List Stamp → Type 0
  IsGood e = (e.0.1 < length keys) × AreWithin e

  module _ (key : List ℕ) (number : ℕ) (is : IsNumber keys key (Some number)) where
    key_is : (n : ℕ) → n < length keys → bytes_eq (key_at keys n) key ≡ nat_eq number n
    key_is n within = nat_list_eq_equiv.symm (key_at keys n) key ∙ sym (is.only n within)

    module _ (t : ℕ) (nonce : List ℕ) where
      stamp : Stamp
      stamp = record { timestamp = t; nonce = nonce }

      abbrev rest : Stamp
      rest = record { timestamp = t % 60; nonce = nonce }

      uses_at : (p : ℕ × ℕ) (ss : List Stamp) → p.1 < length keys → AllByRecursion (IsWithin p.0) ss → list_any (uses key (record { timestamp = t; nonce = nonce })) (entries_at keys (p, ss)) ≡ (is_place (t / 60, number) p && list_any (same_stamp rest) ss)
      uses_at p [] known within = none (is_place (t / 60, number) p)
        where
          none : (b : Bool) → false ≡ (b && false)
          none true = refl
          none false = refl
      uses_at p (s ∷ ss) known within =
          (λ i. one i || uses_at p ss known within.1 i) ∙ shared (is_place (t / 60, number) p) (same_stamp rest s) (list_any (same_stamp rest) ss)
        where
          turned : (a b c d : Bool) → ((true && a) && ((b && c) && d)) ≡ ((b && a) && (c && d))
          turned true true c d = refl
          turned true false c d = refl
          turned false true c d = refl
          turned false false c d = refl

          one : uses key (record { timestamp = t; nonce = nonce }) (plain_in (key_at keys p.1) p.0 s) ≡ (is_place (t / 60, number) p && same_stamp rest s)
          one =
              (λ i. (signed_is s (key_at keys p.1) p.0 within.0 i && key_is p.1 known i) && (time_split t p.0 s.timestamp within.0.0 i && bytes_eq nonce s.nonce))
              ∙ turned (nat_eq number p.1) (nat_eq (t / 60) p.0) (t % 60 == s.timestamp) (bytes_eq nonce s.nonce)
              ∙ ap (λ b. b && same_stamp rest s) (sym (place_is (t / 60, number) p))

          shared : (a b c : Bool) → ((a && b) || (a && c)) ≡ (a && (b || c))
          shared true b c = refl
          shared false b c = refl

      -- a stamp of the key stands where it is in the key's minute
      pub stands_found : (table : Table) → AllByRecursion IsGood table → IsStrictlySortedBy place_cmp (keys_of table) → stands (entries_of keys table) key (record { timestamp = t; nonce = nonce }) ≡ found_or false (list_any (same_stamp rest)) (lookup (is_place (t / 60, number)) table)
      stands_found table good ordered =
          any_found (eq_by_cmp place_cmp) (is_place (t / 60, number)) (place_key (t / 60, number)) IsGood (entries_at keys) (uses key (record { timestamp = t; nonce = nonce })) (list_any (same_stamp rest))
          (λ e ok out. uses_at e.0 e.1 ok.0 ok.1 ∙ ap (λ b. b && list_any (same_stamp rest) e.1) out)
          (λ e ok in_. uses_at e.0 e.1 ok.0 ok.1 ∙ ap (λ b. b && list_any (same_stamp rest) e.1) in_)
          table good (IsDistinct-from_sorted place_cmp (keys_of table) ordered)

    module _ (first : ℕ) where
      -- an entry of the key from a minute on
      abbrev pub is_from : Entry → Bool
      is_from e = is_of_key key e && nat_le first (e.timestamp / 60)

      counts_at : (p : ℕ × ℕ) (ss : List Stamp) → p.1 < length keys → AllByRecursion (IsWithin p.0) ss → count_by is_from (entries_at keys (p, ss)) ≡ count_at number first (p, ss)
      counts_at p [] known within = none (nat_eq p.1 number && nat_le first p.0)
        where
          none : (b : Bool) → ◌≡◌ {A = ℕ} 0 (if b then 0 else 0)
          none true = refl
          none false = refl
      counts_at p (s ∷ ss) known within =
          by (nat_eq p.1 number && nat_le first p.0) (cond (is_from (plain_in (key_at keys p.1) p.0 s)) 1 0) (count_by is_from (entries_at keys (p, ss))) (length ss) (ap (λ b. cond {A = ℕ} b 1 0) one) (counts_at p ss known within.1) (sum_by-cons (λ e. cond {A = ℕ} (is_from e) 1 0) (plain_in (key_at keys p.1) p.0 s) (entries_at keys (p, ss)))
        where
          flip : nat_eq number p.1 ≡ nat_eq p.1 number
          flip = grind (arith, nat_tests)

          one : is_from (plain_in (key_at keys p.1) p.0 s) ≡ (nat_eq p.1 number && nat_le first p.0)
          one = λ i. (signed_is s (key_at keys p.1) p.0 within.0 i && (key_is p.1 known ∙ flip) i) && nat_le first (minute_of p.0 s.timestamp within.0.0 i)

          by : (b : Bool) (n more others : ℕ) {all : ℕ} → n ≡ cond b 1 0 → more ≡ (if b then others else 0) → all ≡ n + more → all ≡ (if b then suc others else 0)
          by true n more others a b c = omega (arith, a, b, c)
          by false n more others a b c = omega (arith, a, b, c)

      -- as many entries of the key from a minute on as the table has
      pub counts_found : (table : Table) → AllByRecursion IsGood table → count_by is_from (entries_of keys table) ≡ total number first table
      counts_found [] good = refl
      counts_found (e ∷ es) good =
          omega (arith, sum_by-append (λ x. cond {A = ℕ} (is_from x) 1 0) (entries_at keys e) (entries_of keys es), counts_at e.0 e.1 good.0.0 good.0.1, counts_found es good.1, sum_by-cons (count_at number first) e es)

  -- ---- a key that has no number

  module _ (key : List ℕ) (is : IsNumber keys key None) where
    and_none : (a b : Bool) → ((a && false) && b) ≡ false
    and_none true b = refl
    and_none false b = refl

    key_none : (n : ℕ) → n < length keys → bytes_eq (key_at keys n) key ≡ false
    key_none n within = nat_list_eq_equiv.symm (key_at keys n) key ∙ sym (is.only n within)

    -- no entry of the table is of this key, whatever else is asked
    none_at : (test : Entry → Bool) (p : ℕ × ℕ) (ss : List Stamp) → p.1 < length keys → list_any (λ e. is_of_key key e && test e) (entries_at keys (p, ss)) ≡ false
    none_at test p [] known = refl
    none_at test p (s ∷ ss) known =
        λ i. ((ap (λ b. (is_signed (plain_in (key_at keys p.1) p.0 s) && b) && test (plain_in (key_at keys p.1) p.0 s)) (key_none p.1 known) ∙ and_none (is_signed (plain_in (key_at keys p.1) p.0 s)) (test (plain_in (key_at keys p.1) p.0 s))) i) || none_at test p ss known i

    pub none_found : (test : Entry → Bool) (table : Table) → AllByRecursion (λ e. e.0.1 < length keys) table → list_any (λ e. is_of_key key e && test e) (entries_of keys table) ≡ false
    none_found test [] known = refl
    none_found test (e ∷ es) known =
        list_any-append (λ x. is_of_key key x && test x) (entries_at keys e) (entries_of keys es)
        ∙ (λ i. none_at test e.0 e.1 known.0 i || none_found test es known.1 i)

pub count_none : {X : Type 0} (p : X → Bool) (xs : List X) → list_any p xs ≡ false → count_by p xs ≡ 0
count_none p [] none = refl
count_none p (x ∷ xs) none =
    let parts = or_parts (p x) (list_any p xs) none in
    omega (arith, sum_by-cons (λ e. cond {A = ℕ} (p e) 1 0) x xs, ap (λ b. cond {A = ℕ} b 1 0) parts.0, count_none p xs parts.1)
