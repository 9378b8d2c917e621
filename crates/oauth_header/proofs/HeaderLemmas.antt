-- Items one after another.
use Rattle.std.proofs.Common.{◌≡◌, ℕ, not, false, ◌==◌, length, List, [], ◌∷◌, ◌++◌, map, filter, refl, sym, ap, ◌∙◌, append_assoc}
use Rattle.std.proofs.lemmas.List.{map-append}
use Rattle.std.proofs.lemmas.List.Elements.{filter-append}
use Rattle.oauth_header.specs.Item.{IsItem, pair_of, is_realm}
use Rattle.oauth_header.specs.Items.{Placed, trimmed, items_in}
use Rattle.oauth_header.specs.Header.{AreItems, pairs_in}
use Rattle.oauth_header.specs.Faults.{IsFaultOf, IsFaultAt}
use Rattle.oauth_header.specs.declared.faults.HeaderFault.{HeaderFault}
use Rattle.oauth_header.specs.declared.faults.HeaderFault.TheVariants.{BadAuthorization, NoMemory}

pub AreItems-append : (front back : List Placed) → AreItems front → AreItems back → AreItems (front ++ back)
AreItems-append [] back first second = second
AreItems-append (item ∷ front) back first second = (first.0, AreItems-append front back first.1 second)

pub pairs_in-append : (front back : List Placed) → pairs_in (front ++ back) ≡ pairs_in front ++ pairs_in back
pairs_in-append front back =
    ap (filter (λ pair. not (is_realm pair))) (map-append (λ (item : Placed). pair_of item.bytes) front back) ∙ filter-append (λ pair. not (is_realm pair)) (map (λ (item : Placed). pair_of item.bytes) front) (map (λ (item : Placed). pair_of item.bytes) back)

-- a fault of some items is one of all, where those before have readings
pub IsFaultOf-within : (fault : HeaderFault) (front here back items : List Placed) → items ≡ front ++ (here ++ back) → AreItems front → IsFaultOf here fault → IsFaultOf items fault
IsFaultOf-within (BadAuthorization at) front here back items are good bad = record {
  before = front ++ bad.before;
  item = bad.item;
  after = bad.after ++ back;
  are = are ∙ ap (λ l. front ++ (l ++ back)) bad.are ∙ ap (λ l. front ++ l) (append_assoc bad.before (bad.item ∷ bad.after) back) ∙ sym (append_assoc front bad.before (bad.item ∷ (bad.after ++ back)));
  good = AreItems-append front bad.before good bad.good;
  bad = bad.bad;
  place = bad.place;
}
IsFaultOf-within NoMemory front here back items are good bad = tt

-- a fault of the item that a piece holds
pub IsFaultOf_at : (fault : HeaderFault) (piece : Placed) (at : ℕ) (bytes : List ℕ) → at ≡ (trimmed piece).at → bytes ≡ (trimmed piece).bytes → (length bytes == 0) ≡ false
    → IsFaultAt at (¬ IsItem bytes) fault → IsFaultOf (items_in (piece ∷ [])) fault
IsFaultOf_at (BadAuthorization found) piece at bytes place same some bad =
    let held : items_in (piece ∷ []) ≡ trimmed piece ∷ [] = rw (← same, some) refl in
    record {
      before = [];
      item = trimmed piece;
      after = [];
      are = held;
      good = tt;
      bad = rw (← same) bad.1;
      place = bad.0 ∙ place;
    }
IsFaultOf_at NoMemory piece at bytes place same some bad = tt
