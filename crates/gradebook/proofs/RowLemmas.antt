-- What the table of ids tells, by its look-ups.
use Rattle.std.proofs.Common.{◌≡◌, ℕ, Bool, true, false, cond, ◌||◌, List, [], ◌∷◌, ◌++◌, Option, Some, None, IsSome, is_some, true≢false, unwrap_or, refl, sym, ap, ◌∙◌, arith, bytes_eq, nat_eq, eq-eqb}
use Rattle.std.specs.Map.{lookup, set_value}
use Rattle.std.proofs.lemmas.Bool.{and_parts, and_from, cond_both}
use Rattle.std.proofs.lemmas.List.{map-append}
use Rattle.std.proofs.lemmas.Option.{none-some}
use Rattle.lti_machine.specs.declared.standing.Standing.{Standing}
use Rattle.lti_machine.specs.declared.standing.Standing.TheVariants.{Unknown}
use Rattle.lti_machine.specs.Rows.{standing_in}
use Rattle.gradebook.specs.Texts.{text_at, IsKnown, Keeps}
use Rattle.gradebook.specs.Tables.{row_at, rows_at, both_eq, IsOwnedWithin, AreRowsWithin, IsOwnedNumber, is_owned_number}
use Rattle.lti_machine.specs.Rows.{has_row, set_row}
use Rattle.gradebook.proofs.TextLemmas.{same_bytes, bytes_same}

unwrap_cond : {A : Type 0} (b : Bool) (x d : A) (o : Option A) → cond b x (unwrap_or o d) ≡ unwrap_or (cond b (Some x) o) d
unwrap_cond true x d o = refl
unwrap_cond false x d o = refl

some_cond : {A : Type 0} (b : Bool) (x : A) (o : Option A) → (b || is_some o) ≡ is_some (cond b (Some x) o)
some_cond true x o = refl
some_cond false x o = refl

-- nothing passes a test that nothing passes
pub lookup_nothing : {X : Type 0} (es : List ((ℕ × ℕ) × X)) → lookup (is_owned_number None) es ≡ None
lookup_nothing [] = refl
lookup_nothing (e ∷ es) = lookup_nothing es

module _ (texts : List (List ℕ)) (key id : List ℕ) (numbers : Option (ℕ × ℕ)) (is : IsOwnedNumber texts key id numbers) where
  pub standing_in-at : (es : List ((ℕ × ℕ) × Standing)) → AreRowsWithin texts es → standing_in (rows_at texts es) key id ≡ unwrap_or (lookup (is_owned_number numbers) es) Unknown
  standing_in-at [] within = refl
  standing_in-at (e ∷ es) within =
      let test = sym (is.only e.0 within.0) in
      (λ i. cond (test i) e.1 (standing_in-at es within.1 i))
      ∙ unwrap_cond (is_owned_number numbers e.0) e.1 Unknown (lookup (is_owned_number numbers) es)

  pub has_row-at : (es : List ((ℕ × ℕ) × Standing)) → AreRowsWithin texts es → has_row (rows_at texts es) key id ≡ is_some (lookup (is_owned_number numbers) es)
  has_row-at [] within = refl
  has_row-at (e ∷ es) within =
      let test = sym (is.only e.0 within.0) in
      (λ i. test i || has_row-at es within.1 i)
      ∙ some_cond (is_owned_number numbers e.0) e.1 (lookup (is_owned_number numbers) es)

  pub set_row-at : (standing : Standing) (es : List ((ℕ × ℕ) × Standing)) → AreRowsWithin texts es → rows_at texts (set_value (is_owned_number numbers) es standing) ≡ set_row (rows_at texts es) key id standing
  set_row-at standing [] within = refl
  set_row-at standing (e ∷ es) within =
      by (is_owned_number numbers e.0)
      ∙ (λ i. cond (is.only e.0 within.0 i) (row_at texts (e.0, standing) ∷ rows_at texts es) (row_at texts e ∷ set_row-at standing es within.1 i))
    where
      by : (b : Bool) → rows_at texts (cond b ((e.0, standing) ∷ es) (e ∷ set_value (is_owned_number numbers) es standing)) ≡ cond b (row_at texts (e.0, standing) ∷ rows_at texts es) (row_at texts e ∷ rows_at texts (set_value (is_owned_number numbers) es standing))
      by true = refl
      by false = refl

pub set_within : (texts : List (List ℕ)) (test : ℕ × ℕ → Bool) (standing : Standing) (es : List ((ℕ × ℕ) × Standing)) → AreRowsWithin texts es → AreRowsWithin texts (set_value test es standing)
set_within texts test standing [] within = tt
set_within texts test standing (e ∷ es) within =
    cond_both (test e.0) ((e.0, standing) ∷ es) (e ∷ set_value test es standing) (AreRowsWithin texts)
    (λ _. within)
    (λ _. (within.0, set_within texts test standing es within.1))

set_nothing : (test : ℕ × ℕ → Bool) (standing : Standing) (es : List ((ℕ × ℕ) × Standing)) → lookup test es ≡ None → set_value test es standing ≡ es
set_nothing test standing [] none = refl
set_nothing test standing (e ∷ es) none = by (test e.0) none (set_nothing test standing es)
  where
    by : (b : Bool) → cond b (Some e.1) (lookup test es) ≡ None → (lookup test es ≡ None → set_value test es standing ≡ es) → cond b ((e.0, standing) ∷ es) (e ∷ set_value test es standing) ≡ e ∷ es
    by true none rest = absurd (none-some e.1 (sym none))
    by false none rest = ap (λ tail. e ∷ tail) (rest none)

-- an id that isn't found has no row to set
pub set_row-none : (texts : List (List ℕ)) (key id : List ℕ) (numbers : Option (ℕ × ℕ)) → IsOwnedNumber texts key id numbers → (standing : Standing) (es : List ((ℕ × ℕ) × Standing)) → AreRowsWithin texts es → lookup (is_owned_number numbers) es ≡ None → rows_at texts es ≡ set_row (rows_at texts es) key id standing
set_row-none texts key id numbers is standing es within none =
    ap (rows_at texts) (sym (set_nothing (is_owned_number numbers) standing es none)) ∙ set_row-at texts key id numbers is standing es within

-- a key and an id that have numbers are found
pub owned_found : (texts : List (List ℕ)) (key id : List ℕ) (numbers : Option (ℕ × ℕ)) → IsOwnedNumber texts key id numbers → IsKnown texts key → IsKnown texts id → IsSome numbers
owned_found texts key id None is key_known id_known =
    absurd (true≢false (sym (is.only (key_known.number, id_known.number) (key_known.within, id_known.within)
    ∙ and_from _ _ (bytes_same _ _ (sym key_known.is)) (bytes_same _ _ (sym id_known.is)))))
owned_found texts key id (Some p) is key_known id_known = refl

-- the texts of two numbers
pub owned_texts : (texts : List (List ℕ)) (key id : List ℕ) (p : ℕ × ℕ) → IsOwnedNumber texts key id (Some p) → (text_at texts p.0 ≡ key) × (text_at texts p.1 ≡ id)
owned_texts texts key id p is =
    let same : both_eq p p ≡ true = and_from (nat_eq p.0 p.0) (nat_eq p.1 p.1) (eq-eqb p.0 p.0 refl) (eq-eqb p.1 p.1 refl) in
    let parts = and_parts (bytes_eq key (text_at texts p.0)) (bytes_eq id (text_at texts p.1)) (sym (is.only p is.within) ∙ same) in
    (sym (same_bytes _ _ parts.0), sym (same_bytes _ _ parts.1))

pub push_row-at : (texts : List (List ℕ)) (key id : List ℕ) (p : ℕ × ℕ) (standing : Standing) (es : List ((ℕ × ℕ) × Standing)) → IsOwnedNumber texts key id (Some p) → rows_at texts (es ++ (p, standing) ∷ []) ≡ rows_at texts es ++ record { key = key; id = id; standing = standing } ∷ []
push_row-at texts key id p standing es is =
    let own = owned_texts texts key id p is in
    map-append (row_at texts) es ((p, standing) ∷ [])
    ∙ (λ i. rows_at texts es ++ record { key = own.0 i; id = own.1 i; standing = standing } ∷ [])

pub push_within : (texts : List (List ℕ)) (p : ℕ × ℕ) (standing : Standing) (es : List ((ℕ × ℕ) × Standing)) → IsOwnedWithin texts p → AreRowsWithin texts es → AreRowsWithin texts (es ++ (p, standing) ∷ [])
push_within texts p standing [] own within = (own, tt)
push_within texts p standing (e ∷ es) own within = (within.0, push_within texts p standing es own within.1)

-- texts that get numbers leave each row
pub rows_kept : (before after : List (List ℕ)) → Keeps before after → (es : List ((ℕ × ℕ) × Standing)) → AreRowsWithin before es → rows_at after es ≡ rows_at before es
rows_kept before after keeps [] within = refl
rows_kept before after keeps (e ∷ es) within =
    λ i. record { key = keeps.same e.0.0 within.0.0 i; id = keeps.same e.0.1 within.0.1 i; standing = e.1 } ∷ rows_kept before after keeps es within.1 i

pub rows_stay_within : (before after : List (List ℕ)) → Keeps before after → (es : List ((ℕ × ℕ) × Standing)) → AreRowsWithin before es → AreRowsWithin after es
rows_stay_within before after keeps [] within = tt
rows_stay_within before after keeps (e ∷ es) within = (
  (omega (arith, within.0.0, keeps.longer), omega (arith, within.0.1, keeps.longer)),
  rows_stay_within before after keeps es within.1,
)

pub none_from : {X : Type 0} (o : Option X) → is_some o ≡ false → o ≡ None
none_from None h = refl
none_from (Some x) h = absurd (true≢false h)
