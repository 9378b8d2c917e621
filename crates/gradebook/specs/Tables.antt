-- The tables that a book keeps in place of the entries, and what they tell. Their keys are numbers of texts.
use Rattle.std.specs.Prelude.{◌≡◌, ◌<◌, ℕ, Bool, false, ◌&&◌, List, map, length, Option, Some, None, IfSome, bytes_eq, nat_eq}
use Rattle.std.specs.List.{AllByRecursion}
use Rattle.lti_machine.specs.declared.standing.Standing.{Standing}
use Rattle.lti_machine.specs.Rows.{RowValue}
use Rattle.lti_machine.specs.Placements.{PlacementValue, PlacedValue}
use Rattle.gradebook.specs.Texts.{text_at}
use Rattle.gradebook.specs.declared.placements.Target.{Target}

-- ---- the ids

abbrev pub both_eq : ℕ × ℕ → ℕ × ℕ → Bool
both_eq a b = nat_eq a.0 b.0 && nat_eq a.1 b.1

abbrev pub row_at : List (List ℕ) → (ℕ × ℕ) × Standing → RowValue
row_at texts e = record { key = text_at texts e.0.0; id = text_at texts e.0.1; standing = e.1 }

-- what the table tells
abbrev pub rows_at : List (List ℕ) → List ((ℕ × ℕ) × Standing) → List RowValue
rows_at texts es = map (row_at texts) es

-- each number is that of a text
abbrev pub IsOwnedWithin : List (List ℕ) → ℕ × ℕ → Type 0
IsOwnedWithin texts p = (p.0 < length texts) × (p.1 < length texts)

abbrev pub AreRowsWithin : List (List ℕ) → List ((ℕ × ℕ) × Standing) → Type 0
AreRowsWithin texts es = AllByRecursion (λ e. IsOwnedWithin texts e.0) es

abbrev pub is_owned_number : Option (ℕ × ℕ) → ℕ × ℕ → Bool
is_owned_number None p = false
is_owned_number (Some q) p = both_eq q p

-- the two numbers of a key and an id, where both have one
pub record IsOwnedNumber (texts : List (List ℕ)) (key id : List ℕ) (numbers : Option (ℕ × ℕ)) : Type 0 where
  pub within : IfSome numbers (IsOwnedWithin texts)
  pub only : (p : ℕ × ℕ) → IsOwnedWithin texts p → is_owned_number numbers p ≡ (bytes_eq key (text_at texts p.0) && bytes_eq id (text_at texts p.1))

-- ---- the placements

abbrev pub placement_of : Target → PlacementValue
placement_of target = record { sourced_id = target.sourced_id; service = target.service }

abbrev pub all_eq : ℕ × ℕ × ℕ → ℕ × ℕ × ℕ → Bool
all_eq a b = nat_eq a.0 b.0 && nat_eq a.1 b.1 && nat_eq a.2 b.2

abbrev pub placed_at : List (List ℕ) → (ℕ × ℕ × ℕ) × Target → PlacedValue
placed_at texts e = record {
  key = text_at texts e.0.0;
  link = text_at texts e.0.1;
  user = text_at texts e.0.2;
  placement = placement_of e.1;
}

-- what the table tells
abbrev pub all_placed_at : List (List ℕ) → List ((ℕ × ℕ × ℕ) × Target) → List PlacedValue
all_placed_at texts es = map (placed_at texts) es

-- each number is that of a text
abbrev pub IsLaunchWithin : List (List ℕ) → ℕ × ℕ × ℕ → Type 0
IsLaunchWithin texts p = (p.0 < length texts) × (p.1 < length texts) × (p.2 < length texts)

abbrev pub ArePlacedWithin : List (List ℕ) → List ((ℕ × ℕ × ℕ) × Target) → Type 0
ArePlacedWithin texts es = AllByRecursion (λ e. IsLaunchWithin texts e.0) es

abbrev pub is_launch_number : Option (ℕ × ℕ × ℕ) → ℕ × ℕ × ℕ → Bool
is_launch_number None p = false
is_launch_number (Some q) p = all_eq q p

-- the three numbers of a key, a link and a user, where all have one
pub record IsLaunchNumber (texts : List (List ℕ)) (key link user : List ℕ) (numbers : Option (ℕ × ℕ × ℕ)) : Type 0 where
  pub within : IfSome numbers (IsLaunchWithin texts)
  pub only : (p : ℕ × ℕ × ℕ) → IsLaunchWithin texts p → is_launch_number numbers p ≡ (bytes_eq key (text_at texts p.0) && bytes_eq link (text_at texts p.1) && bytes_eq user (text_at texts p.2))
