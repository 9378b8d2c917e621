-- Bytes begin with one spelling of a request at most.
use Rattle.std.proofs.Common.{◌≡◌, ◌<◌, ◌⊎◌, ℕ, List, [], ◌∷◌, ◌++◌, length, inl, inr, refl, sym, ap, ◌∙◌, append_assoc, append-nil, subst, arith}
use Rattle.std.proofs.lemmas.List.{length-append}
use Rattle.httparse.proofs.GrammarLemmas.{request_unique}
use Rattle.lti_outside.specs.declared.limits.Limits.{Limits}
use Rattle.http_wire.specs.Shape.{HasNoHead, IsHead}
use Rattle.http_wire.specs.Head.{HeadParts, HeadReads, IsRequestOf, head_parts_of, part_conditions, body_length, request_of}
use Rattle.http_wire.specs.Spelling.{HeadIn, BeginsWithNone, OneSpelling, NoProperFront}
use Rattle.http_wire.proofs.ReadingLemmas.{head_parts_unique}
use Rattle.http_wire.proofs.ShapeLemmas.{by_last, before_last, head_of, tail_of}

-- two fronts of the same bytes: one begins with the other
fronts : (a b x y : List ℕ) → a ++ x ≡ b ++ y → ((z : List ℕ) × (b ≡ a ++ z) × (x ≡ z ++ y)) ⊎ ((z : List ℕ) × (a ≡ b ++ z) × (y ≡ z ++ x))
fronts [] b x y is = inl (b, refl, is)
fronts (c ∷ a) [] x y is = inr (c ∷ a, refl, sym is)
fronts (c ∷ a) (d ∷ b) x y is =
    elim (fronts a b x y (ap tail_of is)) as (λ _. ((z : List ℕ) × (d ∷ b ≡ (c ∷ a) ++ z) × (x ≡ z ++ y)) ⊎ ((z : List ℕ) × (c ∷ a ≡ (d ∷ b) ++ z) × (y ≡ z ++ x))) [
      | inl f ↦ inl (f.0, (λ i. head_of (sym is i) ∷ f.1 i), f.2)
      | inr f ↦ inr (f.0, (λ i. head_of (is i) ∷ f.1 i), f.2)
    ]

-- no head begins with a shorter one
no_shorter : (a b z : List ℕ) → IsHead a → IsHead b → b ≡ a ++ z → z ≡ []
no_shorter a b z one other is =
    elim (by_last z) [
      | inl none ↦ none
      | inr some ↦
          let before : other.front ++ 13 ∷ 10 ∷ 13 ∷ [] ≡ a ++ some.0
          = (before_last (other.front ++ 13 ∷ 10 ∷ 13 ∷ []) (a ++ some.0) 10 some.1
          (append_assoc other.front (13 ∷ 10 ∷ 13 ∷ []) (10 ∷ []) ∙ sym other.is ∙ is ∙ ap (λ w. a ++ w) some.2 ∙ sym (append_assoc a some.0 (some.1 ∷ [])))).0 in
          absurd (other.first one.front some.0 (before ∙ ap (λ w. w ++ some.0) one.is))
    ]

-- bytes begin with one head at most
pub heads_unique : (a b x y : List ℕ) → IsHead a → IsHead b → a ++ x ≡ b ++ y → (a ≡ b) × (x ≡ y)
heads_unique a b x y one other is =
    elim (fronts a b x y is) as (λ _. (a ≡ b) × (x ≡ y)) [
      | inl f ↦ let none = no_shorter a b f.0 one other f.1 in (sym (f.1 ∙ ap (λ z. a ++ z) none ∙ append-nil a), f.2 ∙ ap (λ z. z ++ y) none)
      | inr f ↦ let none = no_shorter b a f.0 other one f.1 in (f.1 ∙ ap (λ z. b ++ z) none ∙ append-nil b, sym (f.2 ∙ ap (λ z. z ++ x) none))
    ]

-- fronts of one length of the same bytes are the same
pub same_fronts : (a b x y : List ℕ) → length a ≡ length b → a ++ x ≡ b ++ y → (a ≡ b) × (x ≡ y)
same_fronts [] [] x y long is = (refl, is)
same_fronts [] (d ∷ b) x y long is = absurd (omega (arith, long))
same_fronts (c ∷ a) [] x y long is = absurd (omega (arith, long))
same_fronts (c ∷ a) (d ∷ b) x y long is =
    let rest = same_fronts a b x y (omega (arith, long)) (ap tail_of is) in
    ((λ i. head_of (is i) ∷ rest.0 i), rest.1)

-- a head says one thing
said_once : (limits : Limits) (head : List ℕ) (p q : HeadParts) → HeadReads limits head p → HeadReads limits head q → p ≡ q
said_once limits head p q one other =
    head_parts_unique IsRequestOf head_parts_of (part_conditions limits) limits head (λ h k a b. (request_unique head h k [] [] a b).0) p q one other

pub one_spelling : OneSpelling
one_spelling limits one other x y p q first second is =
    let heads = heads_unique first.head second.head (p.body ++ x) (q.body ++ y) first.is_head second.is_head
    (sym (append_assoc first.head p.body x) ∙ ap (λ b. b ++ x) (sym first.is) ∙ is ∙ ap (λ b. b ++ y) second.is ∙ append_assoc second.head q.body y) in
    let same_parts = said_once limits first.head first.head_parts second.head_parts first.reads (subst (λ (h : List ℕ). HeadReads limits h second.head_parts) (sym heads.0) second.reads) in
    let bodies = same_fronts p.body q.body x y (first.body ∙ ap body_length same_parts ∙ sym second.body) heads.1 in (
      first.is ∙ (λ i. heads.0 i ++ bodies.0 i) ∙ sym second.is,
      first.parts_are ∙ (λ i. request_of (same_parts i) (bodies.0 i)) ∙ sym second.parts_are,
      bodies.1,
    )

pub no_proper_front : NoProperFront
no_proper_front limits spelled more one other first second =
    (one_spelling limits spelled (spelled ++ more) more [] one other first second (sym (append-nil (spelled ++ more)))).2

-- bytes without a head begin with no spelling
pub none_without_head : (limits : Limits) (bytes : List ℕ) → HasNoHead bytes → BeginsWithNone limits bytes
none_without_head limits bytes none spelled rest parts spells is =
    none spells.is_head.front (parts.body ++ rest)
    (is ∙ ap (λ x. x ++ rest) spells.is ∙ append_assoc spells.head parts.body rest ∙ ap (λ x. x ++ (parts.body ++ rest)) spells.is_head.is)

-- a head with less behind it than the body that it says begins no spelling
pub none_in_body : (limits : Limits) (bytes head rest : List ℕ) (head_parts : HeadParts) → HeadIn limits bytes head rest → HeadReads limits head head_parts → length rest < body_length head_parts
    → BeginsWithNone limits bytes
none_in_body limits bytes head rest head_parts stands reads short spelled more parts spells is =
    let same = heads_unique head spells.head rest (parts.body ++ more) stands.is_head spells.is_head
    (sym stands.is ∙ is ∙ ap (λ x. x ++ more) spells.is ∙ append_assoc spells.head parts.body more) in
    let same_parts = said_once limits head head_parts spells.head_parts reads (subst (λ (x : List ℕ). HeadReads limits x spells.head_parts) (sym same.0) spells.reads) in
    let lengths = ap body_length same_parts in
    let whole = ap length same.1 ∙ length-append parts.body more in
    omega (arith, whole, lengths, short, spells.body)
