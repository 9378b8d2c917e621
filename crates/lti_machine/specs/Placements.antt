-- Where a grade of a user of a resource link goes (LTI 1.1.1, sections 3 and 6).
use Rattle.std.specs.Prelude.{ℕ, Bool, ◌&&◌, List, [], ◌∷◌, Option, None, Some, bytes_eq, if◌then◌else◌}
use Rattle.std.specs.List.{fold}
use Rattle.lti_machine.specs.declared.entry.Entry.{Entry}
use Rattle.lti_machine.specs.declared.entry.Effect.{Effect}
use Rattle.lti_machine.specs.declared.entry.Effect.TheVariants as effect

-- the sourcedId of the grade, and the address of the service that takes it
pub record PlacementValue : Type 0 where
  pub sourced_id : List ℕ
  pub service : List ℕ

abbrev pub after_effect : List ℕ → List ℕ → Option PlacementValue → Effect → Option PlacementValue
after_effect link user before (effect.Launch other_link other_user sourced_id service) =
    if bytes_eq other_link link && bytes_eq other_user user then Some (record { sourced_id = sourced_id; service = service })
    else before
after_effect link user before _ = before

abbrev pub after_entry : List ℕ → List ℕ → List ℕ → Option PlacementValue → Entry → Option PlacementValue
after_entry key link user before entry =
    if bytes_eq entry.key key then after_effect link user before entry.effect else before

-- the placement of the last launch of this key, link and user
abbrev pub placement : List Entry → List ℕ → List ℕ → List ℕ → Option PlacementValue
placement entries key link user = fold (after_entry key link user) None entries

-- the placement of a key's link and user
pub record PlacedValue : Type 0 where
  pub key : List ℕ
  pub link : List ℕ
  pub user : List ℕ
  pub placement : PlacementValue

-- the placement of this key, link and user
abbrev pub is_placed : List ℕ → List ℕ → List ℕ → PlacedValue → Bool
is_placed key link user placed = bytes_eq key placed.key && bytes_eq link placed.link && bytes_eq user placed.user

-- where the grade of a key's link and user goes, by these placements
abbrev pub placement_in : List PlacedValue → List ℕ → List ℕ → List ℕ → Option PlacementValue
placement_in [] key link user = None
placement_in (p ∷ ps) key link user = if is_placed key link user p then Some p.placement else placement_in ps key link user

-- in the place of the one that is the same, or at the end where none is
abbrev pub put_by : {A : Type 0} → (A → A → Bool) → List A → A → List A
put_by same [] new = new ∷ []
put_by same (x ∷ xs) new = if same new x then new ∷ xs else x ∷ put_by same xs new

abbrev pub put_some : {A : Type 0} → (A → A → Bool) → List A → Option A → List A
put_some same xs None = xs
put_some same xs (Some new) = put_by same xs new

-- of what the entries tell the last of each that are the same, in the order of the first of them
abbrev pub latest : {A : Type 0} → (A → A → Bool) → (Entry → Option A) → List Entry → List A
latest same told entries = fold (λ xs entry. put_some same xs (told entry)) [] entries

-- the same key, link and user
abbrev pub same_place : PlacedValue → PlacedValue → Bool
same_place a b = is_placed a.key a.link a.user b

-- the placement that an effect under a key tells
abbrev pub launched : List ℕ → Effect → Option PlacedValue
launched key (effect.Launch link user sourced_id service) =
    Some (record { key = key; link = link; user = user; placement = record { sourced_id = sourced_id; service = service } })
launched key _ = None

abbrev pub launch_of : Entry → Option PlacedValue
launch_of entry = launched entry.key entry.effect

-- the last placement of each key, link and user, in order of first launch
abbrev pub placed_of : List Entry → List PlacedValue
placed_of entries = latest same_place launch_of entries
