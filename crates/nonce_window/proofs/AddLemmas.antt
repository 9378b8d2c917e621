-- A nonce comes into the tables.
use Rattle.std.proofs.Common.{◌≡◌, ◌<◌, ◌+◌, ◌^◌, ◌/◌, ◌%◌, ◌∙◌, ℕ, List, false, sym, subst, length, count_by, arith, Some, get_or, set, IfSome}
use Rattle.std.specs.List.{list_any, AllByRecursion}
use Rattle.std.specs.List.Sorted.{IsStrictlySortedBy}
use Rattle.std.specs.Map.{keys_of, lookup}
use Rattle.std.proofs.lemmas.List.{get_or_default}
use Rattle.lti_machine.specs.Nonces.{Stamp, same_stamp, stands, is_of_key}
use Rattle.nonce_window.specs.Added.{IsAdded}
use Rattle.nonce_window.specs.Keys.{key_at, IsNumber}
use Rattle.nonce_window.specs.Nonces.{Table, AreCounted, AreWithin, IsTable, entries_of, plain, plain_in, place_cmp}
use Rattle.nonce_window.specs.Placed.{IsPlaced}
use Rattle.nonce_window.proofs.KeyLemmas.{same_bytes}
use Rattle.nonce_window.proofs.TableLemmas.{IsGood, is_place, all_both, stands_found, found_le}
use Rattle.nonce_window.proofs.SoundLemmas.{new_from, room_from, all_counted, same_time}
use Rattle.nonce_window.proofs.PlacedLemmas.{placed_entries, placed_within, more_counted}

-- what is read from a list, with another default
pub at_zero : (xs : List ℕ) (i v : ℕ) → i < length xs → v ≡ get_or xs i v → v ≡ get_or xs i 0
at_zero xs i v within read = read ∙ get_or_default xs i v 0 within

-- the tables, where the key has its number
pub record IsBegun (keys : List (List ℕ)) (counts : List ℕ) (table : Table) (key : List ℕ) (number : ℕ) : Type 0 where
  pub is : IsNumber keys key (Some number)
  pub long : length counts ≡ length keys
  pub counted : AreCounted counts table
  pub sound : IsTable table

module _ (keys : List (List ℕ)) (counts : List ℕ) (table : Table) (key : List ℕ) (number : ℕ) (begun : IsBegun keys counts table key number) where
  good : AllByRecursion (IsGood keys) table
  good =
      all_both (λ e. e.0.1 < length keys) AreWithin table
      (subst (λ n. AllByRecursion (λ (e : (ℕ × ℕ) × List Stamp). e.0.1 < n) table) begun.long begun.counted.numbered) begun.sound.within

  pub begun_within : number < length counts
  begun_within = omega (arith, begun.is.within, begun.long)

  pub known_new : (t : ℕ) (nonce : List ℕ) → stands (entries_of keys table) key (record { timestamp = t; nonce = nonce }) ≡ false → IfSome (lookup (is_place (t / 60, number)) table) (λ stamps. list_any (same_stamp (record { timestamp = t % 60; nonce = nonce })) stamps ≡ false)
  known_new t nonce none =
      new_from (lookup (is_place (t / 60, number)) table) (record { timestamp = t % 60; nonce = nonce })
      (sym (stands_found keys key number begun.is t nonce table good begun.sound.ordered) ∙ none)

  -- the count of the key is below the bound
  pub count_below : (bound : ℕ) → count_by (is_of_key key) (entries_of keys table) < bound → get_or counts number 0 < bound
  count_below bound below = omega (arith, begun.counted.totals number, all_counted keys key number begun.is table good, below)

  pub known_room : (t bound : ℕ) → count_by (is_of_key key) (entries_of keys table) < bound → IfSome (lookup (is_place (t / 60, number)) table) (λ stamps. length stamps < bound)
  known_room t bound below =
      room_from (lookup (is_place (t / 60, number)) table) bound
      (omega (arith, found_le number (t / 60) table begun.sound.ordered, all_counted keys key number begun.is table good, below))

  key_is : key_at keys number ≡ key
  key_is = sym (same_bytes key (key_at keys number) (sym (begun.is.only number begun.is.within) ∙ grind arith))

  module _ (t : ℕ) (nonce : List ℕ) (after : Table) (placed : IsPlaced table (t / 60, number) (record { timestamp = t % 60; nonce = nonce }) after) where
    pub added_entry : IsAdded (entries_of keys table) (plain key (record { timestamp = t; nonce = nonce })) (entries_of keys after)
    added_entry =
        let added = placed_entries table after (t / 60, number) (record { timestamp = t % 60; nonce = nonce }) placed keys in
        let entry : plain_in (key_at keys number) (t / 60) (record { timestamp = t % 60; nonce = nonce }) ≡ plain key (record { timestamp = t; nonce = nonce }) =
        λ i. plain (key_is i) (record { timestamp = same_time t i; nonce = nonce }) in
        subst (λ e. IsAdded (entries_of keys table) e (entries_of keys after)) entry added

    pub added_table : t < 2 ^ 64 → 0 < length nonce → IsStrictlySortedBy place_cmp (keys_of after) → IsTable after
    added_table fits signed ordered = record {
      ordered = ordered;
      within = placed_within table after (t / 60, number) (record { timestamp = t % 60; nonce = nonce }) placed (omega arith, signed, omega (arith, same_time t, fits)) begun.sound.within;
    }

    pub added_counted : AreCounted (set counts number (get_or counts number 0 + 1)) after
    added_counted = more_counted counts table after (t / 60, number) (record { timestamp = t % 60; nonce = nonce }) begun.counted placed begun_within
