-- Where a head ends, run by run.
use Rattle.std.proofs.Common.{◌≡◌, ◌<◌, ◌==◌, false, ℕ, ◌⊎◌, List, [], ◌∷◌, ◌++◌, length, inl, inr, refl, sym, ap, ◌∙◌, append_assoc, append-nil, subst, arith}
use Rattle.std.proofs.lemmas.Grind.{common_steps}
use Rattle.std.proofs.lemmas.List.Elements.{All-head, All-tail}
use Rattle.std.specs.Prelude.{Err}
use Rattle.http_wire.specs.declared.fault.WireFault.{WireFault}
use Rattle.http_wire.specs.declared.fault.WireFault.TheVariants.{ReadFault, NoMemory}
use Rattle.http_wire.specs.Taking.{HasNoLineFeed, IsRun, HandTells, HeadTaken, BodyTaken}
use Rattle.http_wire.specs.Shape.{head_end, HasNoHead, IsHead}

pub none_at_first : HasNoHead []
none_at_first front rest is = absurd (let e = ap length is in grind (arith, common_steps, e))

-- a list is empty or has a last element
pub by_last : (xs : List ℕ) → (xs ≡ []) ⊎ ((front : List ℕ) × (x : ℕ) × (xs ≡ front ++ x ∷ []))
by_last [] = inl refl
by_last (x ∷ xs) =
    elim (by_last xs) as (λ _. (x ∷ xs ≡ []) ⊎ ((front : List ℕ) × (y : ℕ) × (x ∷ xs ≡ front ++ y ∷ []))) [
      | inl none ↦ inr ([], x, ap (λ ys. x ∷ ys) none)
      | inr some ↦ inr (x ∷ some.0, some.1, ap (λ ys. x ∷ ys) some.2)
    ]

abbrev pub head_of : List ℕ → ℕ
head_of [] = 0
head_of (z ∷ zs) = z

abbrev pub tail_of : List ℕ → List ℕ
tail_of [] = []
tail_of (z ∷ zs) = zs

-- equal lists with one element more were equal before it, and in it
pub before_last : (xs ys : List ℕ) (a b : ℕ) → xs ++ a ∷ [] ≡ ys ++ b ∷ [] → (xs ≡ ys) × (a ≡ b)
before_last [] [] a b is = (refl, ap head_of is)
before_last [] (y ∷ ys) a b is = absurd (let e = ap length is in grind (arith, common_steps, e))
before_last (x ∷ xs) [] a b is = absurd (let e = ap length is in grind (arith, common_steps, e))
before_last (x ∷ xs) (y ∷ ys) a b is =
    let rest = before_last xs ys a b (ap tail_of is) in
    ((λ i. head_of (is i) ∷ rest.0 i), rest.1)

-- one byte more that ends no head
pub none_after : (xs : List ℕ) (b : ℕ) → HasNoHead xs → ((front : List ℕ) → xs ++ b ∷ [] ≡ front ++ head_end → ⊥) → HasNoHead (xs ++ b ∷ [])
none_after xs b none not front rest is =
    elim (by_last rest) [
      | inl empty ↦ not front (is ∙ ap (λ r. (front ++ head_end) ++ r) empty ∙ append-nil (front ++ head_end))
      | inr some ↦ none front some.0 (before_last xs ((front ++ head_end) ++ some.0) b some.1 (is ∙ ap (λ r. (front ++ head_end) ++ r) some.2 ∙ sym (append_assoc (front ++ head_end) some.0 (some.1 ∷ [])))).0
    ]

-- one byte more that ends a head
pub head_after : (xs : List ℕ) (b : ℕ) → HasNoHead xs → (front : List ℕ) → xs ++ b ∷ [] ≡ front ++ head_end → IsHead (xs ++ b ∷ [])
head_after xs b none front is =
    let before : xs ≡ front ++ 13 ∷ 10 ∷ 13 ∷ [] = (before_last xs (front ++ 13 ∷ 10 ∷ 13 ∷ []) b 10 (is ∙ sym (append_assoc front (13 ∷ 10 ∷ 13 ∷ []) (10 ∷ [])))).0 in
    record { front = front; is = is; first = subst HasNoHead before none }

-- a byte that is no line feed ends no head
no_end : (xs front : List ℕ) (b : ℕ) → (b == 10) ≡ false → xs ++ b ∷ [] ≡ front ++ head_end → ⊥
no_end xs front b other is =
    let last : b ≡ 10 = (before_last xs (front ++ 13 ∷ 10 ∷ 13 ∷ []) b 10 (is ∙ sym (append_assoc front (13 ∷ 10 ∷ 13 ∷ []) (10 ∷ [])))).1 in
    absurd (let t = sym other ∙ ap (λ k. k == 10) last in cc)

-- bytes without a line feed end no head
pub none_within : (ys xs : List ℕ) → HasNoHead xs → HasNoLineFeed ys → HasNoHead (xs ++ ys)
none_within [] xs none line = subst HasNoHead (sym (append-nil xs)) none
none_within (b ∷ ys) xs none line =
    let first = none_after xs b none (λ front is. no_end xs front b (All-head (λ c. (c == 10) ≡ false) b ys line) is) in
    subst HasNoHead (append_assoc xs (b ∷ []) ys) (none_within ys (xs ++ b ∷ []) first (All-tail (λ c. (c == 10) ≡ false) b ys line))

-- a run that ends no head
pub none_after_run : (xs piece : List ℕ) → HasNoHead xs → IsRun piece → ((front : List ℕ) → xs ++ piece ≡ front ++ head_end → ⊥) → HasNoHead (xs ++ piece)
none_after_run xs piece none run not =
    elim run [
      | inl empty ↦ subst HasNoHead (sym (ap (λ p. xs ++ p) empty ∙ append-nil xs)) none
      | inr some ↦
          let whole : xs ++ piece ≡ (xs ++ some.0) ++ some.1 ∷ [] = ap (λ p. xs ++ p) some.2 ∙ sym (append_assoc xs some.0 (some.1 ∷ [])) in
          subst HasNoHead (sym whole) (none_after (xs ++ some.0) some.1 (none_within some.0 xs none some.3) (λ front is. not front (whole ∙ is)))
    ]

-- a run that ends a head
pub head_after_run : (xs piece : List ℕ) → HasNoHead xs → IsRun piece → (front : List ℕ) → xs ++ piece ≡ front ++ head_end → IsHead (xs ++ piece)
head_after_run xs piece none run front is =
    elim run [
      | inl empty ↦ absurd (none front [] (sym (append-nil xs) ∙ ap (λ p. xs ++ p) (sym empty) ∙ is ∙ sym (append-nil (front ++ head_end))))
      | inr some ↦
          let whole : xs ++ piece ≡ (xs ++ some.0) ++ some.1 ∷ [] = ap (λ p. xs ++ p) some.2 ∙ sym (append_assoc xs some.0 (some.1 ∷ [])) in
          subst IsHead (sym whole) (head_after (xs ++ some.0) some.1 (none_within some.0 xs none some.3) front (sym whole ∙ is))
    ]

-- what handing on failed with, the head fails with
pub run_failed : (most limit : ℕ) (bytes kept before after total : List ℕ) (ended : Type 0) → total ≡ before ++ bytes → HasNoHead before
    → (fault : WireFault) → HandTells IsRun most bytes kept before after ended (Err fault) → HeadTaken limit total kept ended (Err fault)
run_failed most limit bytes kept before after total ended is none ReadFault tells =
    subst HasNoHead (sym (is ∙ ap (λ x. before ++ x) tells.0 ∙ append-nil before)) none
run_failed most limit bytes kept before after total ended is none NoMemory tells = tt
run_failed most limit bytes kept before after total ended is none fault tells = absurd tells

-- and so does the body
pub hand_failed : (kind : List ℕ → Type 0) (most count : ℕ) (bytes kept before after total : List ℕ) (ended : Type 0) → total ≡ before ++ bytes → length before < count
    → (fault : WireFault) → HandTells kind most bytes kept before after ended (Err fault) → BodyTaken count total kept ended (Err fault)
hand_failed kind most count bytes kept before after total ended is short ReadFault tells =
    subst (λ (x : List ℕ). length x < count) (sym (is ∙ ap (λ x. before ++ x) tells.0 ∙ append-nil before)) short
hand_failed kind most count bytes kept before after total ended is short NoMemory tells = tt
hand_failed kind most count bytes kept before after total ended is short fault tells = absurd tells
