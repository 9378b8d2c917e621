-- The table at the start meets the rule.
use Rattle.std.proofs.Common.{◌≡◌, ℕ, zero, suc, ◌+◌, ◌%◌, ◌^◌, ◌≤◌, List, [], ◌∷◌, map, refl, sym, ap, ◌∙◌, subst, inl, arith}
use mathlib.Core.Option.{some, some-injective, some-ne-none}
use lib.ListN.{get_elem?}
use Rattle.std.specs.Option.{unwrap_or}
use Rattle.atomic_table.specs.Table.{opening}
use Rattle.turn_lock.specs.declared.view.View.{View}
use Rattle.turn_lock.proofs.Totals.{below_out}
use Rattle.turn_lock.proofs.Numbering.{all_numbers}
use Rattle.turn_lock.specs.declared.kept.Kept.{Ghosts}
use Rattle.turn_lock.specs.Counts.{once_below}
use Rattle.turn_lock.specs.Views.{opened}
use Rattle.turn_lock.specs.Rule.{Fits, Turns}

module _ {J A K O : Type 0} (means : Ghosts K J A O) where
  pub opens : (kept : K) (spare begin : ℕ) (items : List K) → items ≡ kept ∷ [] → spare ≤ 64 → means.trail kept ≡ [] → means.turned kept ≡ begin → begin % 2 ^ 64 ≡ begin
      → Turns means kept spare (opening (begin ∷ begin ∷ []) items (opened kept spare))
  opens kept spare begin items are few empty turns small =
      let v : View J A K = opened kept spare in
      let none_out : begin + 0 ≡ begin = omega arith in
      let first : (id : ℕ) (u : View J A K) → get_elem? (v ∷ []) id ≡ some u → Fits kept spare begin [] u = each in
      record {
        served = begin;
        out = 0;
        trail = [];
        few = few;
        words_are = λ i. (sym small ∙ ap (λ (n : ℕ). n % 2 ^ 64) (sym none_out)) i ∷ sym small i ∷ [];
        tickets = λ t. let e : once_below t begin ≡ once_below t (begin + 0) = ap (once_below t) (sym none_out) in omega arith;
        counted = refl;
        sized = omega arith;
        places = λ p. sym (below_out p 0 (omega arith));
        numbers = λ k. let a = all_numbers k spare in omega arith;
        each = first;
        slot = inl (refl, (kept, ap (map some) are, record { trail_is = empty; turns_is = turns ∙ sym small; origin_is = refl; limit_is = refl }));
      }
    where
      each : (id : ℕ) (u : View J A K) → get_elem? (opened kept spare ∷ []) id ≡ some u → Fits kept spare begin [] u
      each zero u e = subst (Fits kept spare begin []) (some-injective _ u e) record {
        seen_is = ([], refl);
        met_is = ([], refl);
        met_none = inl refl;
        inside = λ p le. refl;
        own_turn = omega arith;
        knows = λ c. refl;
        answers = omega arith;
        of = λ b e. (sym (ap (λ o. unwrap_or o kept) e), refl);
      }
      each (suc id) u e = absurd (some-ne-none u (sym e))
