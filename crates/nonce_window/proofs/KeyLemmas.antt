-- In a list of keys without repeats, the place of a key is the only one at which that key stands.
use Rattle.std.proofs.Common.{◌≡◌, ◌≢◌, suc, ◌||◌, ◌++◌, ◌<◌, ℕ, Bool, true, false, true≢false, List, [], ◌∷◌, map, length, get_or, Some, None, position, refl, sym, ap, ◌∙◌, arith, ⊎_elim, bytes_eq, nat_eq, eq-eqb}
use Rattle.std.specs.Cmp.Lexicographic.{bytes_decides}
use Rattle.std.specs.List.{list_any, IsDistinct}
use Rattle.std.proofs.lemmas.Bool.{cases_Bool, cases_eq, cases_order, false_from_ne_true, eqb-true}
use Rattle.std.proofs.lemmas.List.{get_or-map, length-map, get_or_at, get_or_append_left, length-append}
use Rattle.std.proofs.lemmas.List.Folds.{list_any_at}
use Rattle.std.proofs.lemmas.List.Quantifiers.{position-Some}
use Rattle.std.proofs.lemmas.Map.Keys.{apart_from_distinct}
use Rattle.std.proofs.lemmas.Option.{none-some}
use Rattle.nonce_window.specs.Keys.{key_at, IsNumber}

pub same_bytes : (a b : List ℕ) → bytes_eq a b ≡ true → a ≡ b
same_bytes a b = (bytes_decides a b).0

pub bytes_same : (a b : List ℕ) → a ≡ b → bytes_eq a b ≡ true
bytes_same a b = (bytes_decides a b).1

module _ {K : Type 0} (f : K → List ℕ) where
  by_bytes : K → K → Bool
  by_bytes x y = bytes_eq (f x) (f y)

  at_place : (ks : List K) (n : ℕ) (d : K) → n < length (map f ks) → key_at (map f ks) n ≡ f (get_or ks n d)
  at_place ks n d within = get_or-map f ks n d [] (omega (arith, within, length-map ks f))

  -- two places of one text are one
  one_place : (ks : List K) (m n : ℕ) (d : K) → IsDistinct (λ x y. bytes_eq (f x) (f y)) ks → m < length ks → n < length ks → f (get_or ks m d) ≡ f (get_or ks n d) → m ≡ n
  one_place ks m n d distinct in_m in_n same =
      ⊎_elim (λ e. e)
      (λ apart. ⊎_elim
      (λ below. absurd (true≢false (sym (bytes_same _ _ same) ∙ apart_from_distinct (λ x y. bytes_eq (f x) (f y)) ks m n d distinct below in_n)))
      (λ above. absurd (true≢false (sym (bytes_same _ _ (sym same)) ∙ apart_from_distinct (λ x y. bytes_eq (f x) (f y)) ks n m d distinct above in_m)))
      apart)
      (cases_order m n)

  pub number_found : (ks : List K) (text : List ℕ) (place : ℕ) → IsDistinct (λ x y. bytes_eq (f x) (f y)) ks → position (λ k. bytes_eq text (f k)) ks ≡ Some place → IsNumber (map f ks) text (Some place)
  number_found [] text place distinct found = absurd (none-some place found)
  number_found (k ∷ ks) text place distinct found =
      let all = k ∷ ks in
      let facts = position-Some (λ x. bytes_eq text (f x)) all place k found in
      let is : text ≡ f (get_or all place k) = same_bytes _ _ facts.1 in
      record {
        within = omega (arith, facts.0, length-map all f);
        only = λ n within.
            let inside : n < length all = omega (arith, within, length-map all f) in
            ⊎_elim
            (λ same. eq-eqb place n (one_place all place n k distinct facts.0 inside (sym is ∙ same_bytes _ _ same ∙ at_place all n k within)) ∙ sym same)
            (λ other. false_from_ne_true (nat_eq place n) (λ e.
            let at_n : text ≡ key_at (map f all) n = is ∙ ap (λ m. f (get_or all m k)) (eqb-true place n e) ∙ sym (at_place all n k within) in
            true≢false (sym (bytes_same _ _ at_n) ∙ other)) ∙ sym other)
            (cases_Bool (bytes_eq text (key_at (map f all) n)));
      }

  pub number_missing : (ks : List K) (text : List ℕ) → list_any (λ k. bytes_eq text (f k)) ks ≡ false → IsNumber (map f ks) text None
  number_missing [] text none = record { within = tt; only = λ n within. absurd (omega arith) }
  number_missing (k ∷ ks) text none =
      record {
        within = tt;
        only = λ n within. sym (false_from_ne_true (bytes_eq text (key_at (map f (k ∷ ks)) n)) (λ same.
            let inside : n < length (k ∷ ks) = omega (arith, within, length-map (k ∷ ks) f) in
            true≢false (sym (list_any_at (λ x. bytes_eq text (f x)) (k ∷ ks) n k inside (ap (bytes_eq text) (sym (at_place (k ∷ ks) n k within)) ∙ same)) ∙ none)));
      }

none_of : (keys : List (List ℕ)) (key : List ℕ) → ((n : ℕ) → n < length keys → false ≡ bytes_eq key (key_at keys n)) → list_any (bytes_eq key) keys ≡ false
none_of [] key none = refl
none_of (k ∷ keys) key none =
    λ i. sym (none 0 (omega arith)) i || none_of keys key (λ n h. none (suc n) (omega (arith, h))) i

-- a key that has no number isn't among them
pub missing : (keys : List (List ℕ)) (key : List ℕ) → IsNumber keys key None → list_any (bytes_eq key) keys ≡ false
missing keys key is = none_of keys key is.only

-- a key that comes in has the next number
pub number_last : (keys : List (List ℕ)) (key : List ℕ) → IsNumber keys key None → IsNumber (keys ++ key ∷ []) key (Some (length keys))
number_last keys key is = record {
  within = omega (arith, length-append keys (key ∷ []));
  only = λ n within.
      ⊎_elim
      (λ same. eq-eqb (length keys) n (sym same) ∙ sym (bytes_same key (key_at (keys ++ key ∷ []) n) (sym (ap (key_at (keys ++ key ∷ [])) same ∙ get_or_at keys key [] [] (length keys) refl))))
      (λ other.
      let less : n < length keys = less_of n other within in
      false_from_ne_true (nat_eq (length keys) n) (λ e. other (sym (eqb-true (length keys) n e)))
      ∙ is.only n less ∙ ap (bytes_eq key) (sym (get_or_append_left keys (key ∷ []) [] n less)))
      (cases_eq n (length keys));
}
  where
    less_of : (n : ℕ) → n ≢ length keys → n < length (keys ++ key ∷ []) → n < length keys
    less_of n other within = ⊎_elim (λ same. absurd (other same)) (λ apart. ⊎_elim (λ is. is) (λ above. absurd (omega (arith, above, within, length-append keys (key ∷ [])))) apart) (cases_order n (length keys))

pub any_map : {A B : Type 0} (p : B → Bool) (f : A → B) (xs : List A) → list_any p (map f xs) ≡ list_any (λ x. p (f x)) xs
any_map p f [] = refl
any_map p f (x ∷ xs) = ap (λ b. p (f x) || b) (any_map p f xs)
