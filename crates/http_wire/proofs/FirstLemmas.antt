-- Faults of the bytes of a connection are the first ones.
use Rattle.std.proofs.Common.{◌≡◌, ◌<◌, ◌-◌, ◌+◌, ◌⊎◌, ℕ, List, [], ◌++◌, length, take, inl, inr, sym, ap, ◌∙◌, append_assoc, append-nil, subst, arith, Option, Some, None}
use Rattle.std.specs.Prelude.{⊤}
use Rattle.std.proofs.lemmas.Grind.{common_steps}
use Rattle.std.proofs.lemmas.List.{take-append-le}
use Rattle.std.proofs.Math.Seq.{take-append-add}
use Rattle.httparse.specs.Grammar.{RequestHead}
use Rattle.httparse.proofs.GrammarLemmas.{request_unique}
use Rattle.lti_outside.specs.declared.limits.Limits.{Limits}
use Rattle.http_wire.specs.declared.fault.WireFault.{WireFault}
use Rattle.http_wire.specs.declared.fault.WireFault.TheVariants.{CutShort}
use Rattle.http_wire.specs.Shape.{HasNoHead}
use Rattle.http_wire.specs.Conditions.{first_fault}
use Rattle.http_wire.specs.Head.{HeadParts, part_conditions, head_parts_of, body_length, HeadReads, HeadFault}
use Rattle.http_wire.specs.Spelling.{HeadIn, EndsInBody, WireFaultOf, BeginsWithNone, FaultsAreFirst}
use Rattle.http_wire.proofs.UniqueLemmas.{heads_unique, none_in_body}

abbrev value_in : {A : Type 0} → Option A → A → A
value_in None other = other
value_in (Some x) other = x

same_some : {A : Type 0} (o : Option A) (x y : A) → o ≡ Some x → o ≡ Some y → x ≡ y
same_some o x y one other = ap (λ v. value_in v x) (sym one ∙ other)

not_both : {A : Type 0} (o : Option A) (x : A) → o ≡ Some x → o ≡ None → ⊥
not_both o x one other = let e = sym one ∙ other in cc

-- a head has one fault at most
head_fault_unique : (limits : Limits) (head : List ℕ) (f h : WireFault) → HeadFault limits head f → HeadFault limits head h → f ≡ h
head_fault_unique limits head f h a b =
    elim a as (λ _. f ≡ h) [
      | inl x ↦ elim b as (λ _. f ≡ h) [ inl y ↦ same_some _ f h x y | inr y ↦ absurd (not_both _ f x y.0) ]
      | inr x ↦ elim b as (λ _. f ≡ h) [
        | inl y ↦ absurd (not_both _ h y x.0)
        | inr y ↦ elim x.1 as (λ _. f ≡ h) [
          | inl p ↦ elim y.1 as (λ _. f ≡ h) [ inl q ↦ p.0 ∙ sym q.0 | inr q ↦ absurd (p.1 q.0 q.1) ]
          | inr p ↦ elim y.1 as (λ _. f ≡ h) [
            | inl q ↦ absurd (q.1 p.0 p.1)
            | inr q ↦
                let same = request_unique head p.0 q.0 [] [] p.1 q.1 in
                same_some _ f h p.2 (ap (λ (k : RequestHead). first_fault (part_conditions limits (head_parts_of k))) same.0 ∙ q.2)
          ]
        ]
      ]
    ]

-- a head with a fault says nothing
fault_not_reads : (limits : Limits) (head : List ℕ) (f : WireFault) (head_parts : HeadParts) → HeadFault limits head f → HeadReads limits head head_parts → ⊥
fault_not_reads limits head f head_parts a reads =
    elim a [
      | inl x ↦ not_both _ f x reads.lines
      | inr x ↦ elim x.1 [
        | inl p ↦ p.1 reads.parsed reads.reads
        | inr p ↦
            let same = request_unique head p.0 reads.parsed [] [] p.1 reads.reads in
            not_both _ f p.2 (ap (λ (k : RequestHead). first_fault (part_conditions limits (head_parts_of k))) same.0
            ∙ ap (λ (k : HeadParts). first_fault (part_conditions limits k)) (sym reads.is) ∙ reads.parts)
      ]
    ]

-- a head that stands in the bytes stands in as many of them as the limit allows
no_head_in : (limits : Limits) (bytes head rest : List ℕ) → HeadIn limits bytes head rest → HasNoHead bytes → ⊥
no_head_in limits bytes head rest stands none =
    none stands.is_head.front rest (stands.is ∙ ap (λ x. x ++ rest) stands.is_head.is)

too_long_not_in : (limits : Limits) (bytes head rest : List ℕ) → HeadIn limits bytes head rest → HasNoHead (take limits.head bytes) → ⊥
too_long_not_in limits bytes head rest stands none =
    let more : limits.head ≡ length head + (limits.head - length head) = omega (arith, stands.fits) in
    let cut : take limits.head bytes ≡ head ++ take (limits.head - length head) rest
    = (λ i. take (more i) (stands.is i)) ∙ take-append-add head rest (limits.head - length head) in
    none stands.is_head.front (take (limits.head - length head) rest) (cut ∙ ap (λ x. x ++ take (limits.head - length head) rest) stands.is_head.is)

abbrev In : Limits → List ℕ → Type 0 → WireFault → Type 0
In limits bytes ended fault =
    (head : List ℕ) × (rest : List ℕ) × HeadIn limits bytes head rest
    × (HeadFault limits head fault ⊎ ((fault ≡ CutShort) × EndsInBody limits head rest ended))

stays : (limits : Limits) (bytes left : List ℕ) (fault : WireFault) → WireFaultOf limits bytes (left ≡ []) fault → WireFaultOf limits (bytes ++ left) ⊤ fault
stays limits bytes left fault is =
    elim is as (λ _. WireFaultOf limits (bytes ++ left) ⊤ fault) [
      | inl x ↦ inl (x.0, (grind (arith, common_steps, x.1.0), subst HasNoHead (sym (take-append-le limits.head bytes left x.1.0)) x.1.1))
      | inr x ↦ elim x as (λ _. WireFaultOf limits (bytes ++ left) ⊤ fault) [
        | inl y ↦
            let same : bytes ≡ bytes ++ left = sym (ap (λ l. bytes ++ l) y.1.3 ∙ append-nil bytes) in
            subst (λ (b : List ℕ). WireFaultOf limits b ⊤ fault) same (inr (inl (y.0, (y.1.0, y.1.1, y.1.2, tt))))
        | inr y ↦
            let stands : HeadIn limits (bytes ++ left) y.0 (y.1 ++ left)
            = record { is = ap (λ b. b ++ left) y.2.is ∙ append_assoc y.0 y.1 left; is_head = y.2.is_head; fits = y.2.fits } in
            elim y.3 as (λ _. WireFaultOf limits (bytes ++ left) ⊤ fault) [
              | inl f ↦ inr (inr (y.0, y.1 ++ left, stands, inl f))
              | inr f ↦
                  let short : length (y.1 ++ left) < body_length f.1.0 = subst (λ (r : List ℕ). length r < body_length f.1.0) (sym (ap (λ l. y.1 ++ l) f.1.3 ∙ append-nil y.1)) f.1.2 in
                  inr (inr (y.0, y.1 ++ left, stands, inr (f.0, (f.1.0, f.1.1, short, tt))))
            ]
      ]
    ]

-- two heads with faults in the same bytes
same_in : (limits : Limits) (bytes : List ℕ) (f h : WireFault) → In limits bytes ⊤ f → In limits bytes ⊤ h → f ≡ h
same_in limits bytes f h a b =
    let same = (heads_unique a.0 b.0 a.1 b.1 a.2.is_head b.2.is_head (sym a.2.is ∙ b.2.is)).0 in
    elim a.3 as (λ _. f ≡ h) [
      | inl x ↦ elim b.3 as (λ _. f ≡ h) [
        | inl y ↦ head_fault_unique limits a.0 f h x (subst (λ (k : List ℕ). HeadFault limits k h) (sym same) y)
        | inr y ↦ absurd (fault_not_reads limits a.0 f y.1.0 x (subst (λ (k : List ℕ). HeadReads limits k y.1.0) (sym same) y.1.1))
      ]
      | inr x ↦ elim b.3 as (λ _. f ≡ h) [
        | inl y ↦ absurd (fault_not_reads limits a.0 h x.1.0 (subst (λ (k : List ℕ). HeadFault limits k h) (sym same) y) x.1.1)
        | inr y ↦ x.0 ∙ sym y.0
      ]
    ]

one_fault : (limits : Limits) (bytes : List ℕ) (f h : WireFault) → WireFaultOf limits bytes ⊤ f → WireFaultOf limits bytes ⊤ h → f ≡ h
one_fault limits bytes f h a b =
    elim a as (λ _. f ≡ h) [
      | inl x ↦ elim b as (λ _. f ≡ h) [
        | inl y ↦ x.0 ∙ sym y.0
        | inr y ↦ elim y as (λ _. f ≡ h) [
          | inl z ↦ absurd (omega (arith, x.1.0, z.1.1))
          | inr z ↦ absurd (too_long_not_in limits bytes z.0 z.1 z.2 x.1.1)
        ]
      ]
      | inr x ↦ elim x as (λ _. f ≡ h) [
        | inl p ↦ elim b as (λ _. f ≡ h) [
          | inl y ↦ absurd (omega (arith, y.1.0, p.1.1))
          | inr y ↦ elim y as (λ _. f ≡ h) [
            | inl z ↦ p.0 ∙ sym z.0
            | inr z ↦ absurd (no_head_in limits bytes z.0 z.1 z.2 p.1.2)
          ]
        ]
        | inr p ↦ elim b as (λ _. f ≡ h) [
          | inl y ↦ absurd (too_long_not_in limits bytes p.0 p.1 p.2 y.1.1)
          | inr y ↦ elim y as (λ _. f ≡ h) [
            | inl z ↦ absurd (no_head_in limits bytes p.0 p.1 p.2 z.1.2)
            | inr z ↦ same_in limits bytes f h p z
          ]
        ]
      ]
    ]

excludes : (limits : Limits) (bytes : List ℕ) (fault : WireFault) → WireFaultOf limits bytes ⊤ fault → BeginsWithNone limits bytes
excludes limits bytes fault is spelled rest parts spells begins =
    let stands : HeadIn limits bytes spells.head (parts.body ++ rest)
    = record { is = begins ∙ ap (λ x. x ++ rest) spells.is ∙ append_assoc spells.head parts.body rest; is_head = spells.is_head; fits = spells.fits } in
    elim is [
      | inl x ↦ too_long_not_in limits bytes spells.head (parts.body ++ rest) stands x.1.1
      | inr x ↦ elim x [
        | inl y ↦ no_head_in limits bytes spells.head (parts.body ++ rest) stands y.1.2
        | inr y ↦ elim y.3 [
          | inl f ↦
              let same = (heads_unique y.0 spells.head y.1 (parts.body ++ rest) y.2.is_head spells.is_head (sym y.2.is ∙ stands.is)).0 in
              fault_not_reads limits y.0 fault spells.head_parts f (subst (λ (k : List ℕ). HeadReads limits k spells.head_parts) (sym same) spells.reads)
          | inr f ↦ none_in_body limits bytes y.0 y.1 f.1.0 y.2 f.1.1 f.1.2 spelled rest parts spells begins
        ]
      ]
    ]

pub faults_are_first : FaultsAreFirst
faults_are_first = (stays, one_fault, excludes)
