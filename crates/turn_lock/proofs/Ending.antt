-- The raise of the word that is served keeps the rule: the seat gives the value back.
use Rattle.std.proofs.Common.{◌≡◌, ◌≢◌, ℕ, ◌+◌, ◌-◌, ◌%◌, ◌^◌, ◌≤◌, ◌⊎◌, List, [], ◌∷◌, ◌++◌, length, set, get_or, Bool, true, false, eqb, ltb, refl, sym, ap, ◌∙◌, subst, ⊎_elim, inl, arith, length-append}
use Rattle.std.proofs.Math.Nat.{mod-add-mod}
use Rattle.std.proofs.lemmas.List.{append-nil, append_assoc}
use Rattle.std.proofs.lemmas.Bool.{lt-ltb, le-ltb}
use Rattle.std.proofs.lemmas.Bool.Decides.{eqb_tells}
use mathlib.Core.Option.{Option, some, none}
use Rattle.atomic_table.specs.Table.{State, Me, step, gives, put_back, rest, Allows}
use Rattle.turn_lock.specs.declared.view.OwnPlaces.{OwnPlaces}
use Rattle.turn_lock.specs.declared.view.View.{View}
use Rattle.turn_lock.proofs.Totals.{total_set, total_at, total_more, each_set, below_more, below_out}
use Rattle.turn_lock.proofs.Looking.{starts_longer}
use Rattle.turn_lock.specs.declared.kept.Kept.{Ghosts}
use Rattle.turn_lock.specs.Counts.{total, one_if, once_below}
use Rattle.turn_lock.specs.Trail.{StartsWith}
use Rattle.turn_lock.specs.Owned.{in_places, in_numbers, in_spare}
use Rattle.turn_lock.specs.Views.{ticketed, has_ticket, called, ticket_of, own_after, done, size}
use Rattle.turn_lock.specs.Rule.{Fits, Ready, Turns}
use Rattle.turn_lock.specs.Steps.{Ends, IsAnswered}

-- the number whose places a turn may change keeps its number
count_keeps : (b : Bool) (p : ℕ) (own : List OwnPlaces) → length (own_after b p own) ≡ length own
count_keeps true p [] = refl
count_keeps true p (h ∷ hs) = refl
count_keeps false p own = refl

numbers_keep : (k : ℕ) (b : Bool) (p : ℕ) (own : List OwnPlaces) → in_numbers k (own_after b p own) ≡ in_numbers k own
numbers_keep k true p [] = refl
numbers_keep k true p (h ∷ hs) = refl
numbers_keep k false p own = refl

-- a new place is one more
places_more : (x p : ℕ) (own : List OwnPlaces) → 1 ≤ length own → in_places x (own_after true p own) ≡ in_places x own + one_if (eqb p x)
places_more x p [] full = absurd (omega arith)
places_more x p (h ∷ hs) full = let e = total_more (λ y. one_if (eqb y x)) h.places p in omega arith

-- the places after a turn, in which the trail grew by at most one
places_after : {X : Type 0} (x : ℕ) (seen now : List X) (own : List OwnPlaces) → 1 ≤ length own → (now ≡ seen) ⊎ ((a : X) × (now ≡ seen ++ a ∷ []))
    → in_places x (own_after (ltb (length seen) (length now)) (length seen) own) + once_below x (length seen) ≡ in_places x own + once_below x (length now)
places_after x seen now own full grows =
    ⊎_elim
    (λ (e : now ≡ seen).
    let l : length now ≡ length seen = ap length e in
    let b : in_places x (own_after (ltb (length seen) (length now)) (length seen) own) ≡ in_places x own = ap (λ (k : Bool). in_places x (own_after k (length seen) own)) (le-ltb (length seen) (length now) (omega arith)) in
    let o : once_below x (length now) ≡ once_below x (length seen) = ap (once_below x) l in
    omega arith)
    (λ (g : (a : _) × (now ≡ seen ++ a ∷ [])).
    let l : length now ≡ length seen + 1 = ap length g.1 ∙ length-append seen (g.0 ∷ []) in
    let b : in_places x (own_after (ltb (length seen) (length now)) (length seen) own) ≡ in_places x (own_after true (length seen) own) = ap (λ (k : Bool). in_places x (own_after k (length seen) own)) (lt-ltb (length seen) (length now) (omega arith)) in
    let o : once_below x (length now) ≡ once_below x (length seen + 1) = ap (once_below x) l in
    let m = below_more x (length seen) in
    let p = places_more x (length seen) own full in
    omega arith)
    grows

-- what began the list begins a longer one
pub starts_on : {X : Type 0} (ys xs front : List X) → StartsWith ys xs → StartsWith xs front → StartsWith ys front
starts_on ys xs front h f = (f.0 ++ h.0, h.1 ∙ ap (λ l. l ++ h.0) f.1 ∙ append_assoc front f.0 h.0)

module _ {J A K O : Type 0} (means : Ghosts K J A O) (base : K) (first : ℕ) where
  abbrev Rule : State K (View J A K) → Type 0
  Rule = Turns means base first

  others_fit : (served : ℕ) (xs ys : List (J × A)) (v : View J A K) → StartsWith ys xs → called v.phase ≡ 0 → Fits base first served xs v → Fits base first (served + 1) ys v
  others_fit served xs ys v more idle f = record {
    seen_is = starts_on ys xs v.seen more f.seen_is;
    met_is = starts_on ys xs v.met_seen more f.met_is;
    met_none = f.met_none;
    inside = f.inside;
    own_turn = omega arith;
    knows = λ e. absurd (omega arith);
    answers = f.answers;
    of = f.of;
  }

  pub ends : (slots id : ℕ) (m : Me K (View J A K)) (y : K) → m.1 ≡ (0, y) ∷ [] → IsAnswered means base m.0 y
      → Allows Rule slots id m 1 (λ n. (n + 1) % 2 ^ 64) (Ends means (step slots 1 1 0 none) m)
  ends slots id m y holds answered s r count found small =
      let v = m.0 in
      let u = ticket_of v.phase in
      let f = r.each id v found in
      let ys = means.trail y in
      let w = done ys v in
      let grown = ltb (length v.seen) (length ys) in
      let is_called : called v.phase ≡ 1 = ap called answered.is_called in
      let ticket : ticketed v.phase ≡ 1 = ap ticketed answered.is_called in
      let has : (x : ℕ) → has_ticket x v.phase ≡ one_if (eqb u x) = λ x. ap (has_ticket x) answered.is_called in
      let now : u ≡ r.served = ⊎_elim (λ t. t.1) (λ (t : (eqb u r.served ≡ false) × (u ≢ r.served)). let a : one_if (eqb u r.served) ≡ 0 = ap one_if t.0 in let b = has r.served in let c = f.own_turn in absurd (omega arith)) (eqb_tells u r.served) in
      let same : v.seen ≡ r.trail = f.knows is_called in
      let grows = answered.grows in
      let longer : StartsWith ys v.seen = ⊎_elim (λ e. ([], e ∙ sym (append-nil v.seen))) (λ (t : (x : J × A) × (ys ≡ v.seen ++ x ∷ [])). (t.0 ∷ [], t.1)) grows in
      let more : StartsWith ys r.trail = subst (StartsWith ys) same longer in
      let length_same : length v.seen ≡ length r.trail = ap length same in
      let length_more = starts_longer ys v.seen longer in
      let words : s.words ≡ (r.served + r.out) % 2 ^ 64 ∷ r.served % 2 ^ 64 ∷ [] = r.words_are in
      let calls = total_set (λ (x : View J A K). called x.phase) s.views id v w found in
      let at_least = total_at (λ (x : View J A K). called x.phase) s.views id v found in
      let outs = total_set (λ (x : View J A K). ticketed x.phase) s.views id v w found in
      let counted = r.counted in
      ⊎_elim
      (λ (h : (total (λ (x : View J A K). called x.phase) s.views ≡ 0) × ((z : K) × (s.homes ≡ some z ∷ []) × Ready means base r.served r.trail z)). absurd (omega arith))
      (λ (h : (total (λ (x : View J A K). called x.phase) s.views ≡ 1) × (s.homes ≡ none ∷ [])).
      let none_left : total (λ (x : View J A K). called x.phase) (set s.views id w) ≡ 0 = omega arith in
      let one_out : 1 ≤ r.out = let e = total_at (λ (x : View J A K). ticketed x.phase) s.views id v found in omega arith in
      let next : (r.served + 1) + (r.out - 1) ≡ r.served + r.out = omega arith in (
        w,
        gives,
        tt,
        record {
          served = r.served + 1;
          out = r.out - 1;
          trail = ys;
          few = r.few;
          words_are = ap (λ (ws : List ℕ). set ws 1 ((get_or ws 1 0 + 1) % 2 ^ 64)) words
              ∙ (λ i. sym next i % 2 ^ 64 ∷ mod-add-mod r.served (2 ^ 64) 1 i ∷ []);
          tickets = λ x.
              let e = total_set (λ (x' : View J A K). has_ticket x x'.phase) s.views id v w found in
              let k = r.tickets x in
              let a = below_more x r.served in
              let b : once_below x ((r.served + 1) + (r.out - 1)) ≡ once_below x (r.served + r.out) = ap (once_below x) next in
              let c : one_if (eqb u x) ≡ one_if (eqb r.served x) = ap (λ (k : ℕ). one_if (eqb k x)) now in
              let d = has x in
              omega arith;
          counted = omega arith;
          sized = let e = total_set size s.views id v w found in let k = r.sized in let l = count_keeps grown (length v.seen) v.own in omega arith;
          places = λ p.
              let e = total_set (λ (x : View J A K). in_places p x.own) s.views id v w found in
              let k = r.places p in
              let a = places_after p v.seen ys v.own answered.answers grows in
              let o : once_below p (length v.seen) ≡ once_below p (length r.trail) = ap (once_below p) length_same in
              omega arith;
          numbers = λ p.
              let e = total_set (λ (x : View J A K). in_numbers p x.own + in_spare p x.spare) s.views id v w found in
              let k = r.numbers p in
              let a = numbers_keep p grown (length v.seen) v.own in
              omega arith;
          each = λ j x at.
              let here = total_at (λ (x' : View J A K). called x'.phase) (set s.views id w) j x at in
              let idle : called x.phase ≡ 0 = omega arith in
              each_set (λ (x' : View J A K). called x'.phase ≡ 0 → Fits base first (r.served + 1) ys x') s.views id w
              (λ j' x' at' idle'. others_fit r.served r.trail ys x' more idle' (r.each j' x' at'))
              (λ _. record {
                seen_is = ([], sym (append-nil ys));
                met_is = starts_on ys r.trail v.met_seen more f.met_is;
                met_none = f.met_none;
                inside = λ p le.
                    let a = places_after p v.seen ys v.own answered.answers grows in
                    let b = f.inside p (omega arith) in
                    let c = below_out p (length ys) le in
                    omega arith;
                own_turn = omega arith;
                knows = λ e. absurd (omega arith);
                answers = omega arith;
                of = f.of;
              })
              j x at idle;
          slot = inl (
            none_left,
            (
              y,
              ap (put_back s.homes) holds ∙ ap (λ (hs : List (Option K)). set hs 0 (some y)) h.1,
              record {
                trail_is = refl;
                turns_is = answered.turns_is ∙ ap (λ (k : ℕ). (k + 1) % 2 ^ 64) now;
                origin_is = answered.origin_is;
                limit_is = answered.limit_is;
              },
            ),
          );
        },
        (y, holds, λ i. (w, ap rest holds i)),
      ))
      r.slot
