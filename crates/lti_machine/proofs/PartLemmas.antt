-- The live stamps of a key are a part of those of all keys.
use Rattle.std.proofs.Common.{◌≡◌, ℕ, Bool, true, false, cond, ◌&&◌, ◌||◌, List, [], ◌∷◌, map, filter, refl, sym, ap, ◌∙◌, bytes_eq}
use Rattle.std.specs.List.{list_any}
use Rattle.std.specs.List.Sorted.{IsStrictlySortedBy}
use Rattle.std.specs.Ordering.{nat_cmp, ordering_then}
use Rattle.std.specs.declared.cmp.Ordering.TheVariants.{Less, Equal}
use Rattle.std.specs.Cmp.Lexicographic.{slice_cmp, nat_list_eq_equiv, bytes_decides}
use Rattle.std.proofs.lemmas.Cmp.{tied_itself, nat_list_cmp_total}
use Rattle.lti_machine.specs.Nonces.{Stamp, stamp_cmp, same_stamp, live}
use Rattle.lti_machine.specs.Used.{Used, used_cmp, used_of, lives, used}
use Rattle.lti_machine.specs.SummaryLaws.{LiveIsPart}
use Rattle.lti_machine.proofs.OrderLemmas.{IsBefore, rises-in_order}
use Rattle.lti_machine.proofs.UsedLemmas.{used_total, is_eq-used_cmp, is_used, same_stamps, rises_live, contains-live}

module _ (key : List ℕ) where
  -- the stamps of this key
  abbrev own : List Used → List Stamp
  own us = map (λ u. u.stamp) (filter (λ (u : Used). bytes_eq u.key key) us)

  less_stamp : (u v : Used) → u.key ≡ key → v.key ≡ key → used_cmp u v ≡ Less → stamp_cmp u.stamp v.stamp ≡ Less
  less_stamp u v of_u of_v less =
      let tied : slice_cmp nat_cmp u.key v.key ≡ Equal = (λ i. slice_cmp nat_cmp (of_u i) (of_v i)) ∙ tied_itself nat_list_cmp_total key in
      ap (λ o. ordering_then o (stamp_cmp u.stamp v.stamp)) (sym tied) ∙ less

  before_own : (u : Used) (us : List Used) → u.key ≡ key → IsBefore used_cmp u us → IsBefore stamp_cmp u.stamp (own us)
  before_own u [] of_u before = tt
  before_own u (v ∷ us) of_u before = by (bytes_eq v.key key) (bytes_decides v.key key).0 (before_own u us of_u before.1)
    where
      by : (b : Bool) → (b ≡ true → v.key ≡ key) → IsBefore stamp_cmp u.stamp (own us) → IsBefore stamp_cmp u.stamp (map (λ u. u.stamp) (cond b (v ∷ filter (λ (u : Used). bytes_eq u.key key) us) (filter (λ (u : Used). bytes_eq u.key key) us)))
      by true of_v rest = (less_stamp u v of_u (of_v refl) before.0, rest)
      by false of_v rest = rest

  rises_own : (us : List Used) → IsStrictlySortedBy used_cmp us → IsStrictlySortedBy stamp_cmp (own us)
  unfolding IsStrictlySortedBy
  rises_own [] rises = tt
  rises_own (u ∷ us) rises = by (bytes_eq u.key key) (bytes_decides u.key key).0 (rises_own us rises.1)
    where
      by : (b : Bool) → (b ≡ true → u.key ≡ key) → IsStrictlySortedBy stamp_cmp (own us) → IsStrictlySortedBy stamp_cmp (map (λ u. u.stamp) (cond b (u ∷ filter (λ (u : Used). bytes_eq u.key key) us) (filter (λ (u : Used). bytes_eq u.key key) us)))
      by true of_u rest = (before_own u us (of_u refl) rises.0, rest)
      by false of_u rest = rest

  has_own : (q : Stamp) (us : List Used) → list_any (same_stamp q) (own us) ≡ is_used (record { key = key; stamp = q }) us
  has_own q [] = refl
  has_own q (v ∷ us) =
      let keys = nat_list_eq_equiv.symm v.key key in
      by (bytes_eq v.key key) (has_own q us)
      ∙ (λ i. (ap (λ b. b && same_stamp q v.stamp) keys ∙ sym (is_eq-used_cmp (record { key = key; stamp = q }) v)) i || is_used (record { key = key; stamp = q }) us)
    where
      by : (b : Bool) → list_any (same_stamp q) (own us) ≡ is_used (record { key = key; stamp = q }) us
          → list_any (same_stamp q) (map (λ u. u.stamp) (cond b (v ∷ filter (λ (u : Used). bytes_eq u.key key) us) (filter (λ (u : Used). bytes_eq u.key key) us))) ≡ (b && same_stamp q v.stamp || is_used (record { key = key; stamp = q }) us)
      by true rest = ap (λ b. same_stamp q v.stamp || b) rest
      by false rest = rest

pub live_is_part : LiveIsPart
live_is_part entries key now =
    same_stamps (live entries key now) (own key (used entries now)) (rises_live entries key now)
    (rises_own key (used entries now) (rises-in_order used_total (map used_of (filter (lives now) entries))))
    (λ q. contains-live entries now (record { key = key; stamp = q }) ∙ sym (has_own key q (used entries now)))
