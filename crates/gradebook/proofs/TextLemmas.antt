-- In a list of texts without repeats, the place of a text is the only one at which that text stands.
use Rattle.std.proofs.Common.{◌≡◌, ◌<◌, ℕ, Bool, true, false, true≢false, List, [], ◌∷◌, map, length, get_or, Option, Some, None, IsSome, position, refl, sym, ap, ◌∙◌, arith, ⊎_elim, bytes_eq, nat_eq, eq-eqb}
use Rattle.std.specs.Cmp.Lexicographic.{bytes_decides}
use Rattle.std.specs.List.{list_any, IsDistinct}
use Rattle.std.proofs.lemmas.Bool.{cases_Bool, cases_order, false_from_ne_true, eqb-true}
use Rattle.std.proofs.lemmas.List.{get_or-map, length-map}
use Rattle.std.proofs.lemmas.List.Folds.{list_any_at, Any-from_list_any}
use Rattle.std.proofs.lemmas.List.Quantifiers.{position-Some}
use Rattle.std.proofs.lemmas.Map.Keys.{apart_from_distinct}
use Rattle.std.proofs.lemmas.Option.{none-some}
use Rattle.gradebook.specs.Texts.{text_at, IsKnown, IsNumber, Keeps}

pub same_bytes : (a b : List ℕ) → bytes_eq a b ≡ true → a ≡ b
same_bytes a b = (bytes_decides a b).0

pub bytes_same : (a b : List ℕ) → a ≡ b → bytes_eq a b ≡ true
bytes_same a b = (bytes_decides a b).1

module _ {K : Type 0} (f : K → List ℕ) where
  by_bytes : K → K → Bool
  by_bytes x y = bytes_eq (f x) (f y)

  at_place : (ks : List K) (n : ℕ) (d : K) → n < length (map f ks) → text_at (map f ks) n ≡ f (get_or ks n d)
  at_place ks n d within = get_or-map f ks n d [] (omega (arith, within, length-map ks f))

  -- two places of one text are one
  one_place : (ks : List K) (m n : ℕ) (d : K) → IsDistinct (λ x y. bytes_eq (f x) (f y)) ks → m < length ks → n < length ks → f (get_or ks m d) ≡ f (get_or ks n d) → m ≡ n
  one_place ks m n d distinct in_m in_n same =
      ⊎_elim (λ e. e)
      (λ apart. ⊎_elim
      (λ below. absurd (true≢false (sym (bytes_same _ _ same) ∙ apart_from_distinct (λ x y. bytes_eq (f x) (f y)) ks m n d distinct below in_n)))
      (λ above. absurd (true≢false (sym (bytes_same _ _ (sym same)) ∙ apart_from_distinct (λ x y. bytes_eq (f x) (f y)) ks n m d distinct above in_m)))
      apart)
      (cases_order m n)

  pub number_found : (ks : List K) (text : List ℕ) (place : ℕ) → IsDistinct (λ x y. bytes_eq (f x) (f y)) ks → position (λ k. bytes_eq text (f k)) ks ≡ Some place → IsNumber (map f ks) text (Some place)
  number_found [] text place distinct found = absurd (none-some place found)
  number_found (k ∷ ks) text place distinct found =
      let all = k ∷ ks in
      let facts = position-Some (λ x. bytes_eq text (f x)) all place k found in
      let is : text ≡ f (get_or all place k) = same_bytes _ _ facts.1 in
      record {
        within = omega (arith, facts.0, length-map all f);
        only = λ n within.
            let inside : n < length all = omega (arith, within, length-map all f) in
            ⊎_elim
            (λ same. eq-eqb place n (one_place all place n k distinct facts.0 inside (sym is ∙ same_bytes _ _ same ∙ at_place all n k within)) ∙ sym same)
            (λ other. false_from_ne_true (nat_eq place n) (λ e.
            let at_n : text ≡ text_at (map f all) n = is ∙ ap (λ m. f (get_or all m k)) (eqb-true place n e) ∙ sym (at_place all n k within) in
            true≢false (sym (bytes_same _ _ at_n) ∙ other)) ∙ sym other)
            (cases_Bool (bytes_eq text (text_at (map f all) n)));
      }

  pub number_missing : (ks : List K) (text : List ℕ) → list_any (λ k. bytes_eq text (f k)) ks ≡ false → IsNumber (map f ks) text None
  number_missing [] text none = record { within = tt; only = λ n within. absurd (omega arith) }
  number_missing (k ∷ ks) text none =
      record {
        within = tt;
        only = λ n within. sym (false_from_ne_true (bytes_eq text (text_at (map f (k ∷ ks)) n)) (λ same.
            let inside : n < length (k ∷ ks) = omega (arith, within, length-map (k ∷ ks) f) in
            true≢false (sym (list_any_at (λ x. bytes_eq text (f x)) (k ∷ ks) n k inside (ap (bytes_eq text) (sym (at_place (k ∷ ks) n k within)) ∙ same)) ∙ none)));
      }

  pub known_from_any : (ks : List K) (text : List ℕ) → list_any (λ k. bytes_eq text (f k)) ks ≡ true → IsKnown (map f ks) text
  known_from_any ks text found =
      let one = Any-from_list_any (λ k. bytes_eq text (f k)) ks found in
      let inside : one.0 < length (map f ks) = omega (arith, one.2, length-map ks f) in
      record { number = one.0; within = inside; is = at_place ks one.0 one.1 inside ∙ ap f one.3 ∙ sym (same_bytes _ _ one.4) }

-- a text that has a number is found
pub found_from_known : (texts : List (List ℕ)) (text : List ℕ) (number : Option ℕ) → IsKnown texts text → IsNumber texts text number → IsSome number
found_from_known texts text None known is = absurd (true≢false (sym (is.only known.number known.within ∙ bytes_same _ _ (sym known.is))))
found_from_known texts text (Some n) known is = refl

pub known_after : (before after : List (List ℕ)) (text : List ℕ) → Keeps before after → IsKnown before text → IsKnown after text
known_after before after text keeps known =
    record { number = known.number; within = omega (arith, known.within, keeps.longer); is = keeps.same known.number known.within ∙ known.is }
