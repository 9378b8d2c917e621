-- The placements of the entries that tell placements are those placements; and the list tells each placement.
use Rattle.std.proofs.Common.{◌≡◌, ℕ, Bool, true, false, true≢false, cond, ◌&&◌, List, [], ◌∷◌, map, Some, None, refl, sym, ap, ◌∙◌, bytes_eq}
use Rattle.std.proofs.lemmas.Bool.{and_parts, and_from, cond_both}
use Rattle.std.specs.Cmp.{IsEquivalence}
use Rattle.std.specs.Cmp.Lexicographic.{nat_list_eq_equiv}
use Rattle.std.proofs.lemmas.Cmp.{on_equiv, and_equiv}
use Rattle.std.proofs.lemmas.List.Folds.{fold_along}
use Rattle.lti_machine.specs.declared.entry.Entry.{Entry}
use Rattle.lti_machine.specs.declared.entry.Effect.{Effect}
use Rattle.lti_machine.specs.declared.entry.Effect.TheVariants as effect
use Rattle.lti_machine.specs.Placements as placements
use Rattle.lti_machine.specs.Placements.{PlacedValue, is_placed, placement_in, put_by, put_some, same_place, launched, launch_of, placed_of}
use Rattle.lti_machine.proofs.IssuedLemmas.{same_both}
use Rattle.lti_machine.proofs.TextTests.{same_bytes, bytes_same}
use Rattle.lti_machine.specs.Digest.{placed_entry}
use Rattle.lti_machine.proofs.PutLemmas.{latest-told}

places_equiv : IsEquivalence same_place
places_equiv =
    and_equiv (and_equiv (on_equiv (λ (p : PlacedValue). p.key) nat_list_eq_equiv) (on_equiv (λ (p : PlacedValue). p.link) nat_list_eq_equiv))
    (on_equiv (λ (p : PlacedValue). p.user) nat_list_eq_equiv)

pub placed_of-told : (entries : List Entry) → placed_of (map placed_entry (placed_of entries)) ≡ placed_of entries
placed_of-told entries = latest-told places_equiv launch_of placed_entry (λ _. refl) entries

-- ---- the look-ups

again : {A : Type 0} (b : Bool) (x y z : A) → cond b x z ≡ cond b x (cond b y z)
again true x y z = refl
again false x y z = refl

apart : {A : Type 0} (b c : Bool) (x y z : A) → (b ≡ true → c ≡ true → ⊥) → cond b y (cond c x z) ≡ cond c x (cond b y z)
apart true true x y z never = absurd (never refl refl)
apart true false x y z never = refl
apart false true x y z never = refl
apart false false x y z never = refl

-- the same key, link and user
pub record IsPlaced (key link user : List ℕ) (p : PlacedValue) : Type 0 where
  pub same_key : key ≡ p.key
  pub same_link : link ≡ p.link
  pub same_user : user ≡ p.user

pub placed_parts : (key link user : List ℕ) (p : PlacedValue) → is_placed key link user p ≡ true → IsPlaced key link user p
placed_parts key link user p test =
    let parts = and_parts (bytes_eq key p.key && bytes_eq link p.link) (bytes_eq user p.user) test in
    let pair = and_parts (bytes_eq key p.key) (bytes_eq link p.link) parts.0 in
    record { same_key = same_bytes _ _ pair.0; same_link = same_bytes _ _ pair.1; same_user = same_bytes _ _ parts.1 }

-- a look-up after a placement was put
placement_in-put : (ps : List PlacedValue) (n : PlacedValue) (key link user : List ℕ) → placement_in (put_by same_place ps n) key link user ≡ cond (is_placed key link user n) (Some n.placement) (placement_in ps key link user)
placement_in-put [] n key link user = refl
placement_in-put (p ∷ ps) n key link user =
    let asks = is_placed key link user in
    let rest = placement_in ps key link user in
    cond_both (is_placed n.key n.link n.user p) (n ∷ ps) (p ∷ put_by same_place ps n) (λ x. placement_in x key link user ≡ cond (asks n) (Some n.placement) (placement_in (p ∷ ps) key link user))
    (λ same.
    let own = placed_parts n.key n.link n.user p same in
    let test : asks n ≡ asks p = λ i. bytes_eq key (own.same_key i) && bytes_eq link (own.same_link i) && bytes_eq user (own.same_user i) in
    again (asks n) (Some n.placement) (Some p.placement) rest
    ∙ ap (λ b. cond (asks n) (Some n.placement) (cond b (Some p.placement) rest)) test)
    (λ other.
    ap (cond (asks p) (Some p.placement)) (placement_in-put ps n key link user)
    ∙ apart (asks p) (asks n) (Some n.placement) (Some p.placement) rest (λ at_p at_n.
    let of_p = placed_parts key link user p at_p in
    let of_n = placed_parts key link user n at_n in
    true≢false (sym (and_from _ _ (and_from _ _ (bytes_same _ _ (sym of_n.same_key ∙ of_p.same_key)) (bytes_same _ _ (sym of_n.same_link ∙ of_p.same_link))) (bytes_same _ _ (sym of_n.same_user ∙ of_p.same_user))) ∙ other)))

nested_pair : {A : Type 0} (a b c : Bool) (x y : A) → cond ((a && b) && c) x y ≡ cond a (cond (b && c) x y) y
nested_pair true b c x y = refl
nested_pair false b c x y = refl

placement_effect : (placed : List PlacedValue) (k : List ℕ) (x : Effect) (key link user : List ℕ)
    → placement_in (put_some same_place placed (launched k x)) key link user ≡ cond (bytes_eq k key) (placements.after_effect link user (placement_in placed key link user) x) (placement_in placed key link user)
placement_effect placed k (effect.Launch l u sourced_id service) key link user =
    let before = placement_in placed key link user in
    let found = Some (record { sourced_id = sourced_id; service = service }) in
    let keys = nat_list_eq_equiv.symm key k in
    let links = nat_list_eq_equiv.symm link l in
    let users = nat_list_eq_equiv.symm user u in
    placement_in-put placed (record { key = k; link = l; user = u; placement = record { sourced_id = sourced_id; service = service } }) key link user
    ∙ (λ i. cond ((keys i && links i) && users i) found before)
    ∙ nested_pair (bytes_eq k key) (bytes_eq l link) (bytes_eq u user) found before
placement_effect placed k effect.Nothing key link user = sym (same_both (bytes_eq k key) (placement_in placed key link user))
placement_effect placed k (effect.Grade id score) key link user = sym (same_both (bytes_eq k key) (placement_in placed key link user))
placement_effect placed k (effect.Cleared id) key link user = sym (same_both (bytes_eq k key) (placement_in placed key link user))
placement_effect placed k (effect.Issued id) key link user = sym (same_both (bytes_eq k key) (placement_in placed key link user))

-- the list tells the placement of each key, link and user
pub placement_in-placed_of : (entries : List Entry) (key link user : List ℕ) → placement_in (placed_of entries) key link user ≡ placements.placement entries key link user
placement_in-placed_of entries key link user =
    fold_along (λ placed e. put_some same_place placed (launch_of e)) (placements.after_entry key link user) (λ placed found. placement_in placed key link user ≡ found)
    (λ placed found e same.
    placement_effect placed e.key e.effect key link user
    ∙ ap (λ old. cond (bytes_eq e.key key) (placements.after_effect link user old e.effect) old) same)
    [] None entries refl
