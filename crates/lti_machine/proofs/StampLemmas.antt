-- Stamps are in a total order, in which only a stamp ties with itself.
use Rattle.std.proofs.Common.{◌≡◌, ◌⊎◌, inl, inr, Bool, true, true≢false, ◌&&◌, refl, sym, ◌∙◌, is_le, is_eq}
use Rattle.std.specs.Ordering.{nat_cmp, ordering_then}
use Rattle.std.specs.declared.cmp.Ordering.{Ordering}
use Rattle.std.specs.declared.cmp.Ordering.TheVariants.{Less, Equal, Greater}
use Rattle.std.specs.Cmp.{IsTotalOrder, unsigned_ties}
use Rattle.std.specs.Cmp.Lexicographic.{slice_cmp, on_texts}
use Rattle.std.proofs.lemmas.Cmp.{then_total, on_total, nat_cmp_total}
use Rattle.std.proofs.lemmas.Map.Text.{is_eq-slice_cmp}
use Rattle.lti_machine.specs.Nonces.{Stamp, stamp_cmp, same_stamp}

pub stamps_total : IsTotalOrder stamp_cmp
stamps_total = then_total (on_total (λ (s : Stamp). s.timestamp) nat_cmp_total) (on_texts (λ (s : Stamp). s.nonce))

-- the one stands before the other, or is the same
abbrev pub le : Stamp → Stamp → Bool
le s t = is_le (stamp_cmp s t)

pub is_eq-then : (o p : Ordering) → is_eq (ordering_then o p) ≡ (is_eq o && is_eq p)
is_eq-then Less p = refl
is_eq-then Equal p = refl
is_eq-then Greater p = refl

pub is_eq-stamp_cmp : (s t : Stamp) → is_eq (stamp_cmp s t) ≡ same_stamp s t
is_eq-stamp_cmp s t =
    is_eq-then (nat_cmp s.timestamp t.timestamp) (slice_cmp nat_cmp s.nonce t.nonce)
    ∙ (λ i. sym (unsigned_ties s.timestamp t.timestamp) i && is_eq-slice_cmp s.nonce t.nonce i)

pub le_cases : (o : Ordering) → is_le o ≡ true → (o ≡ Less) ⊎ (o ≡ Equal)
le_cases Less h = inl refl
le_cases Equal h = inr refl
le_cases Greater h = absurd (true≢false (sym h))
