-- What a digest tells of entries in their ranges is in its range.
use Rattle.std.proofs.Common.{◌≤◌, ◌^◌, ◌==◌, ℕ, Bool, List, [], ◌∷◌, ◌++◌, length, map, filter, All, IsUtf8, refl, sym, subst, arith}
use Rattle.std.specs.Bool.{⊤}
use Rattle.std.specs.List.{fold, flat_map}
use Rattle.std.proofs.lemmas.Bool.{cond_both}
use Rattle.std.proofs.lemmas.List.Elements.{All-nil, All-cons, All-head, All-tail, All-append, All-push, All-map, All-filter, All-weaker}
use Rattle.std.proofs.lemmas.Map.Views.{All-insert_key}
use Rattle.std.proofs.lemmas.Str.{IsUtf8-nil}
use Rattle.lti_machine.specs.declared.entry.Entry.{Entry}
use Rattle.lti_machine.specs.declared.entry.Effect.{Effect}
use Rattle.lti_machine.specs.declared.entry.Effect.TheVariants as effect
use Rattle.lti_machine.specs.declared.standing.Standing.{Standing}
use Rattle.lti_machine.specs.declared.standing.Standing.TheVariants.{Unknown, Empty, Scored}
use Rattle.lti_machine.specs.EntryBytes.{IsText, AreParts, IsInRange}
use Rattle.lti_machine.specs.Sound.{greatest_moment}
use Rattle.lti_machine.specs.Rules.{high}
use Rattle.lti_machine.specs.Rows.{RowValue, rows_of}
use Rattle.lti_machine.specs.Rows.{is_row}
use Rattle.lti_machine.specs.Placements.{PlacedValue}
use Rattle.lti_machine.specs.Rows.{has_row, set_row}
use Rattle.lti_machine.specs.Rows.{rows_after}
use Rattle.lti_machine.specs.Used.{Used, used_of, used_cmp, lives, in_order, used}
use Rattle.lti_machine.specs.Placements.{put_by, put_some, same_place, launched, launch_of, placed_of}
use Rattle.lti_machine.specs.Digest.{plain_entry, grade_entries, row_entries, placed_entry, used_entry, high_entries}
use Rattle.lti_machine.specs.SummaryLaws.{DigestIsInRange}
use Rattle.lti_machine.proofs.RowLemmas.{rows_step, rows_of-append}

record IsKey (key : List ℕ) : Type 0 where
  utf8 : IsUtf8 key
  short : length key ≤ 255

key_of : (e : Entry) → IsInRange e → IsKey e.key
key_of e ranged = record { utf8 = ranged.key; short = ranged.bounded.key }

plain_ranged : (key : List ℕ) (x : Effect) → IsKey key → AreParts x → IsInRange (plain_entry key x)
plain_ranged key x of parts = record {
  bounded = record { moment = omega arith; timestamp = omega arith; key = of.short; nonce = omega arith; stamped = (λ _. refl, λ _. refl) };
  key = of.utf8;
  nonce = IsUtf8-nil;
  parts = parts;
}

-- what a step keeps, a fold keeps
All-fold : {X : Type 0} (P : X → Type 0) (step : List X → Entry → List X) → ((xs : List X) (e : Entry) → All P xs → IsInRange e → All P (step xs e))
    → (xs : List X) (es : List Entry) → All P xs → All IsInRange es → All P (fold step xs es)
All-fold P step keeps xs [] all ranged = all
All-fold P step keeps xs (e ∷ es) all ranged =
    All-fold P step keeps (step xs e) es (keeps xs e all (All-head IsInRange e es ranged)) (All-tail IsInRange e es ranged)

-- ---- the rows

abbrev IsGrade : Standing → Type 0
IsGrade Unknown = ⊤
IsGrade Empty = ⊤
IsGrade (Scored score) = score ≤ 10 ^ 30

record IsRow (row : RowValue) : Type 0 where
  key : IsKey row.key
  id : IsText row.id
  grade : IsGrade row.standing

All-set_row : (rows : List RowValue) (key id : List ℕ) (s : Standing) → IsGrade s → All IsRow rows → All IsRow (set_row rows key id s)
All-set_row [] key id s grade all = all
All-set_row (r ∷ rows) key id s grade all =
    let first = All-head IsRow r rows all in
    let rest = All-tail IsRow r rows all in
    cond_both (is_row key id r) (record r { standing = s } ∷ rows) (r ∷ set_row rows key id s) (All IsRow)
    (λ _. All-cons IsRow (record r { standing = s }) rows (record { key = first.key; id = first.id; grade = grade }) rest)
    (λ _. All-cons IsRow r (set_row rows key id s) first (All-set_row rows key id s grade rest))

rows_kept : (rows : List RowValue) (key : List ℕ) (x : Effect) → All IsRow rows → IsKey key → AreParts x → All IsRow (rows_after rows key x)
rows_kept rows key (effect.Issued id) all of parts =
    let row : RowValue = record { key = key; id = id; standing = Empty } in
    cond_both (has_row rows key id) rows (rows ++ row ∷ []) (All IsRow)
    (λ _. all)
    (λ _. All-push IsRow rows row all (record { key = of; id = parts; grade = tt }))
rows_kept rows key (effect.Grade id score) all of parts = All-set_row rows key id (Scored score) parts.1 all
rows_kept rows key (effect.Cleared id) all of parts = All-set_row rows key id Empty tt all
rows_kept rows key effect.Nothing all of parts = all
rows_kept rows key (effect.Launch link user sourced_id service) all of parts = all

rows_ranged : (entries : List Entry) → All IsInRange entries → All IsRow (rows_of entries)
rows_ranged entries ranged =
    subst (All IsRow) (sym (rows_of-append [] entries))
    (All-fold IsRow rows_step (λ rows e all here. rows_kept rows e.key e.effect all (key_of e here) here.parts) [] entries (All-nil IsRow) ranged)

grades_told : (key id : List ℕ) (s : Standing) → IsKey key → IsText id → IsGrade s → All IsInRange (grade_entries key id s)
grades_told key id Unknown of text grade = All-nil IsInRange
grades_told key id Empty of text grade = All-nil IsInRange
grades_told key id (Scored score) of text grade =
    All-cons IsInRange (plain_entry key (effect.Grade id score)) [] (plain_ranged key (effect.Grade id score) of (text, grade)) (All-nil IsInRange)

rows_told : (rows : List RowValue) → All IsRow rows → All IsInRange (flat_map row_entries rows)
rows_told [] all = All-nil IsInRange
rows_told (r ∷ rows) all =
    let first = All-head IsRow r rows all in
    All-append IsInRange (row_entries r) (flat_map row_entries rows)
    (All-cons IsInRange (plain_entry r.key (effect.Issued r.id)) (grade_entries r.key r.id r.standing) (plain_ranged r.key (effect.Issued r.id) first.key first.id) (grades_told r.key r.id r.standing first.key first.id first.grade))
    (rows_told rows (All-tail IsRow r rows all))

-- ---- the placements

record IsPlacement (p : PlacedValue) : Type 0 where
  key : IsKey p.key
  parts : AreParts (effect.Launch p.link p.user p.placement.sourced_id p.placement.service)

All-put : {X : Type 0} (P : X → Type 0) (same : X → X → Bool) (xs : List X) (x : X) → All P xs → P x → All P (put_by same xs x)
All-put P same [] x all here = All-cons P x [] here all
All-put P same (y ∷ ys) x all here =
    cond_both (same x y) (x ∷ ys) (y ∷ put_by same ys x) (All P)
    (λ _. All-cons P x ys here (All-tail P y ys all))
    (λ _. All-cons P y (put_by same ys x) (All-head P y ys all) (All-put P same ys x (All-tail P y ys all) here))

launched_ranged : (placed : List PlacedValue) (key : List ℕ) (x : Effect) → All IsPlacement placed → IsKey key → AreParts x → All IsPlacement (put_some same_place placed (launched key x))
launched_ranged placed key (effect.Launch link user sourced_id service) all of parts =
    All-put IsPlacement same_place placed (record { key = key; link = link; user = user; placement = record { sourced_id = sourced_id; service = service } }) all (record { key = of; parts = parts })
launched_ranged placed key effect.Nothing all of parts = all
launched_ranged placed key (effect.Grade id score) all of parts = all
launched_ranged placed key (effect.Cleared id) all of parts = all
launched_ranged placed key (effect.Issued id) all of parts = all

placed_ranged : (entries : List Entry) → All IsInRange entries → All IsPlacement (placed_of entries)
placed_ranged entries ranged =
    All-fold IsPlacement (λ placed e. put_some same_place placed (launch_of e)) (λ placed e all here. launched_ranged placed e.key e.effect all (key_of e here) here.parts) [] entries (All-nil IsPlacement) ranged

-- ---- the nonces

used_ranged : (e : Entry) → IsInRange e → IsInRange (used_entry (used_of e))
used_ranged e ranged = record {
  bounded = record { moment = omega arith; timestamp = ranged.bounded.timestamp; key = ranged.bounded.key; nonce = ranged.bounded.nonce; stamped = ranged.bounded.stamped };
  key = ranged.key;
  nonce = ranged.nonce;
  parts = tt;
}

All-in_order : (P : Used → Type 0) (us : List Used) → All P us → All P (in_order used_cmp us)
unfolding in_order
All-in_order P [] all = all
All-in_order P (u ∷ us) all = All-insert_key used_cmp u P (in_order used_cmp us) (All-in_order P us (All-tail P u us all)) (All-head P u us all)

useds_ranged : (entries : List Entry) (now : ℕ) → All IsInRange entries → All (λ u. IsInRange (used_entry u)) (used entries now)
useds_ranged entries now ranged =
    All-in_order (λ u. IsInRange (used_entry u)) (map used_of (filter (lives now) entries))
    (All-map (λ u. IsInRange (used_entry u)) used_of (filter (lives now) entries)
    (All-filter (lives now) (λ e. IsInRange (used_entry (used_of e))) entries (All-weaker IsInRange (λ e. IsInRange (used_entry (used_of e))) used_ranged entries ranged)))

-- ---- the greatest moment

high_ranged : (entries : List Entry) → All IsInRange entries → high entries ≤ greatest_moment
high_ranged [] ranged = omega arith
high_ranged (e ∷ es) ranged =
    let first = (All-head IsInRange e es ranged).bounded.moment in
    omega (arith, first, high_ranged es (All-tail IsInRange e es ranged))

high_told : (n : ℕ) → n ≤ greatest_moment → All IsInRange (high_entries n)
high_told n within =
    let last : Entry = record { moment = n; key = []; timestamp = 0; nonce = []; effect = effect.Nothing } in
    cond_both (n == 0) [] (last ∷ []) (All IsInRange)
    (λ _. All-nil IsInRange)
    (λ _. All-cons IsInRange last [] (record {
      bounded = record { moment = within; timestamp = omega arith; key = omega arith; nonce = omega arith; stamped = (λ _. refl, λ _. refl) };
      key = IsUtf8-nil;
      nonce = IsUtf8-nil;
      parts = tt;
    }) (All-nil IsInRange))

pub digest_is_in_range : DigestIsInRange
digest_is_in_range entries now ranged =
    let rows = flat_map row_entries (rows_of entries) in
    let places = map placed_entry (placed_of entries) in
    let uses = map used_entry (used entries now) in
    All-append IsInRange ((rows ++ places) ++ uses) (high_entries (high entries))
    (All-append IsInRange (rows ++ places) uses
    (All-append IsInRange rows places
    (rows_told (rows_of entries) (rows_ranged entries ranged))
    (All-map IsInRange placed_entry (placed_of entries) (All-weaker IsPlacement (λ p. IsInRange (placed_entry p)) (λ p told. plain_ranged p.key (effect.Launch p.link p.user p.placement.sourced_id p.placement.service) told.key told.parts) (placed_of entries) (placed_ranged entries ranged))))
    (All-map IsInRange used_entry (used entries now) (useds_ranged entries now ranged)))
    (high_told (high entries) (high_ranged entries ranged))
