-- What the table of launches tells, by its look-ups, and what a launch changes.
use Rattle.std.proofs.Common.{◌≡◌, ℕ, Bool, true, false, true≢false, cond, ◌&&◌, List, [], ◌∷◌, Option, Some, None, IsSome, Bor, refl, sym, ◌∙◌, arith, bytes_eq, nat_eq, eq-eqb}
use Rattle.std.specs.Map.{lookup}
use Rattle.std.specs.Option.{option_map, option_copied}
use Rattle.std.proofs.lemmas.Bool.{and_parts, and_from, cond_both}
use Rattle.indexmap.specs.IndexMap.{insert_entry}
use Rattle.lti_machine.specs.Placements.{placement_in, put_by, same_place}
use Rattle.lti_machine.proofs.PlacedLemmas.{IsPlaced, placed_parts}
use Rattle.gradebook.specs.Texts.{text_at, IsKnown, Keeps}
use Rattle.gradebook.specs.Tables.{placement_of, all_eq, placed_at, all_placed_at, ArePlacedWithin, IsLaunchNumber, is_launch_number}
use Rattle.gradebook.specs.declared.placements.Target.{Target}
use Rattle.gradebook.proofs.TextLemmas.{same_bytes, bytes_same}

map_cond : {A B : Type 0} (f : A → B) (b : Bool) (x : A) (o : Option A) → cond b (Some (f x)) (option_map f o) ≡ option_map f (cond b (Some x) o)
map_cond f true x o = refl
map_cond f false x o = refl

pub map_copied : {A B : Type 0} (f : A → B) (o : Option (Bor A)) → option_map (λ x. f x.now) o ≡ option_map f (option_copied o)
map_copied f None = refl
map_copied f (Some x) = refl

-- nothing passes a test that nothing passes
pub launch_nothing : (es : List ((ℕ × ℕ × ℕ) × Target)) → lookup (is_launch_number None) es ≡ None
launch_nothing [] = refl
launch_nothing (e ∷ es) = launch_nothing es

module _ (texts : List (List ℕ)) (key link user : List ℕ) where
  pub placement_in-at : (numbers : Option (ℕ × ℕ × ℕ)) → IsLaunchNumber texts key link user numbers → (es : List ((ℕ × ℕ × ℕ) × Target)) → ArePlacedWithin texts es → option_map placement_of (lookup (is_launch_number numbers) es) ≡ placement_in (all_placed_at texts es) key link user
  placement_in-at numbers is [] within = refl
  placement_in-at numbers is (e ∷ es) within =
      let test = is.only e.0 within.0 in
      sym (map_cond placement_of (is_launch_number numbers e.0) e.1 (lookup (is_launch_number numbers) es))
      ∙ (λ i. cond (test i) (Some (placement_of e.1)) (placement_in-at numbers is es within.1 i))

  -- a key, a link and a user that have numbers are found
  pub launch_found : (numbers : Option (ℕ × ℕ × ℕ)) → IsLaunchNumber texts key link user numbers → IsKnown texts key → IsKnown texts link → IsKnown texts user → IsSome numbers
  launch_found None is key_known link_known user_known =
      absurd (true≢false (sym (is.only (key_known.number, link_known.number, user_known.number) (key_known.within, link_known.within, user_known.within)
      ∙ and_from _ _ (and_from _ _ (bytes_same _ _ (sym key_known.is)) (bytes_same _ _ (sym link_known.is))) (bytes_same _ _ (sym user_known.is)))))
  launch_found (Some p) is key_known link_known user_known = refl

  -- the texts of three numbers
  pub record LaunchTexts (p : ℕ × ℕ × ℕ) : Type 0 where
    pub of_key : text_at texts p.0 ≡ key
    pub of_link : text_at texts p.1 ≡ link
    pub of_user : text_at texts p.2 ≡ user

  pub launch_texts : (p : ℕ × ℕ × ℕ) → IsLaunchNumber texts key link user (Some p) → LaunchTexts p
  launch_texts p is =
      let front = bytes_eq key (text_at texts p.0) && bytes_eq link (text_at texts p.1) in
      let same : all_eq p p ≡ true =
      and_from (nat_eq p.0 p.0 && nat_eq p.1 p.1) (nat_eq p.2 p.2) (and_from (nat_eq p.0 p.0) (nat_eq p.1 p.1) (eq-eqb p.0 p.0 refl) (eq-eqb p.1 p.1 refl)) (eq-eqb p.2 p.2 refl) in
      let parts = and_parts front (bytes_eq user (text_at texts p.2)) (sym (is.only p is.within) ∙ same) in
      let pair = and_parts (bytes_eq key (text_at texts p.0)) (bytes_eq link (text_at texts p.1)) parts.0 in
      record { of_key = sym (same_bytes _ _ pair.0); of_link = sym (same_bytes _ _ pair.1); of_user = sym (same_bytes _ _ parts.1) }

  module _ (p : ℕ × ℕ × ℕ) (is : IsLaunchNumber texts key link user (Some p)) (target : Target) where
    pub put_placed-at : (es : List ((ℕ × ℕ × ℕ) × Target)) → ArePlacedWithin texts es
        → all_placed_at texts (insert_entry all_eq es p target) ≡ put_by same_place (all_placed_at texts es) (record { key = key; link = link; user = user; placement = placement_of target })
    put_placed-at [] within =
        let own = launch_texts p is in
        λ i. record { key = own.of_key i; link = own.of_link i; user = own.of_user i; placement = placement_of target } ∷ []
    put_placed-at (e ∷ es) within =
        let test = is.only e.0 within.0 in
        by (all_eq p e.0) (λ same. placed_parts key link user (placed_at texts e) (sym test ∙ same))
        ∙ (λ i. cond (test i) (record { key = key; link = link; user = user; placement = placement_of target } ∷ all_placed_at texts es) (placed_at texts e ∷ put_placed-at es within.1 i))
      where
        by : (b : Bool) → (b ≡ true → IsPlaced key link user (placed_at texts e))
            → all_placed_at texts (cond b ((e.0, target) ∷ es) (e ∷ insert_entry all_eq es p target)) ≡ cond b (record { key = key; link = link; user = user; placement = placement_of target } ∷ all_placed_at texts es) (placed_at texts e ∷ all_placed_at texts (insert_entry all_eq es p target))
        by true own =
            let parts = own refl in
            λ i. record { key = sym parts.same_key i; link = sym parts.same_link i; user = sym parts.same_user i; placement = placement_of target } ∷ all_placed_at texts es
        by false own = refl

    pub put_within : (es : List ((ℕ × ℕ × ℕ) × Target)) → ArePlacedWithin texts es → ArePlacedWithin texts (insert_entry all_eq es p target)
    put_within [] within = (is.within, tt)
    put_within (e ∷ es) within =
        cond_both (all_eq p e.0) ((e.0, target) ∷ es) (e ∷ insert_entry all_eq es p target) (ArePlacedWithin texts)
        (λ _. within)
        (λ _. (within.0, put_within es within.1))

-- texts that get numbers leave each placement
pub placed_kept : (before after : List (List ℕ)) → Keeps before after → (es : List ((ℕ × ℕ × ℕ) × Target)) → ArePlacedWithin before es → all_placed_at after es ≡ all_placed_at before es
placed_kept before after keeps [] within = refl
placed_kept before after keeps (e ∷ es) within =
    λ i. record {
      key = keeps.same e.0.0 within.0.0 i;
      link = keeps.same e.0.1 within.0.1 i;
      user = keeps.same e.0.2 within.0.2 i;
      placement = placement_of e.1;
    } ∷ placed_kept before after keeps es within.1 i

pub placed_stay_within : (before after : List (List ℕ)) → Keeps before after → (es : List ((ℕ × ℕ × ℕ) × Target)) → ArePlacedWithin before es → ArePlacedWithin after es
placed_stay_within before after keeps [] within = tt
placed_stay_within before after keeps (e ∷ es) within = (
  (omega (arith, within.0.0, keeps.longer), omega (arith, within.0.1, keeps.longer), omega (arith, within.0.2, keeps.longer)),
  placed_stay_within before after keeps es within.1,
)
