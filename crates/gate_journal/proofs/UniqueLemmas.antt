-- A disk has one reading.
use Rattle.std.proofs.Common.{◌≡◌, ◌⊎◌, inl, inr, ℕ, ◌+◌, ◌^◌, ◌<◌, ◌≤◌, Bool, List, [], ◌∷◌, ◌++◌, length, take, drop, refl, sym, ◌∙◌, ap, subst, arith, append_assoc}
use Rattle.std.proofs.lemmas.List.{take_at, drop_at}
use Rattle.std.proofs.lemmas.Nat.{from_be_bytes-to_be_bytes_4}
use Rattle.std.specs.Int.{w32, from_be_bytes}
use Rattle.gate_journal.specs.Half.{Place, base_of, length_bytes, blocks, opens, generation_at, picks_second, picked, IsCurrent, IsFilled, IsPassed, IsDamagedAt, Recovers, StandsFor}
use Rattle.gate_journal.specs.Read.{IsHindrance}
use Rattle.gate_journal.specs.declared.mount_fault.MountFault.{MountFault}
use Rattle.gate_journal.specs.declared.mount_fault.MountFault.TheVariants as fault
use Rattle.gate_journal.proofs.BlockLemmas.{length-length_bytes, length-block}

block_split : (p : List ℕ) (ps : List (List ℕ)) (r : List ℕ) → (length_bytes (length p) ++ p ++ blocks ps) ++ r ≡ length_bytes (length p) ++ (p ++ (blocks ps ++ r))
block_split p ps r = append_assoc (length_bytes (length p) ++ p) (blocks ps) r ∙ append_assoc (length_bytes (length p)) p (blocks ps ++ r)

-- a length is spelled by the first 4 bytes
spelled : (n : ℕ) (rest : List ℕ) → n < 2 ^ 32 → from_be_bytes w32 (take 4 (length_bytes n ++ rest)) ≡ n
spelled n rest small = ap (λ (l : List ℕ). from_be_bytes w32 l) (take_at (length_bytes n) rest 4 (length-length_bytes n)) ∙ from_be_bytes-to_be_bytes_4 n small

-- Two readings of the same bytes: they are one, or the one that ends first ends at an open gate before a piece of the
-- other.
data Compared (ps qs : List (List ℕ)) (g h : ℕ) (r s : List ℕ) : Type 0 where
  both_end : ps ≡ qs → g ≡ h → Compared ps qs g h r s
  first_ends : g ≡ 1 → length (blocks ps) + 5 + from_be_bytes w32 (take 4 r) ≤ length (blocks qs) → Compared ps qs g h r s
  second_ends : h ≡ 1 → length (blocks qs) + 5 + from_be_bytes w32 (take 4 s) ≤ length (blocks ps) → Compared ps qs g h r s

-- the length of the piece behind an open gate
piece_length : (g : ℕ) (r : List ℕ) (q : List ℕ) (qs : List (List ℕ)) (s : List ℕ) → length (blocks (q ∷ qs)) < 2 ^ 32 → g ∷ r ≡ blocks (q ∷ qs) ++ s → from_be_bytes w32 (take 4 r) ≡ length q
piece_length g r q qs s small is =
    ap (λ (l : List ℕ). from_be_bytes w32 (take 4 (drop 1 l))) is ∙ ap (λ (l : List ℕ). from_be_bytes w32 (take 4 l)) (block_split q qs s)
    ∙ spelled (length q) (q ++ (blocks qs ++ s)) (omega (arith, length-block q qs, small))

compare : (ps qs : List (List ℕ)) (g h : ℕ) (r s : List ℕ) → length (blocks ps) < 2 ^ 32 → length (blocks qs) < 2 ^ 32 → blocks ps ++ g ∷ r ≡ blocks qs ++ h ∷ s → Compared ps qs g h r s
compare [] [] g h r s small small' is = both_end refl (cc)
compare [] (q ∷ qs) g h r s small small' is =
    let is_open : g ≡ 1 = cc in
    first_ends is_open (omega (arith, piece_length g r q qs (h ∷ s) small' is, length-block q qs))
compare (p ∷ ps) [] g h r s small small' is =
    let is_open : h ≡ 1 = cc in
    second_ends is_open (omega (arith, piece_length h s p ps (g ∷ r) small (sym is), length-block p ps))
compare (p ∷ ps) (q ∷ qs) g h r s small small' is =
    let behind : length_bytes (length p) ++ (p ++ (blocks ps ++ g ∷ r)) ≡ length_bytes (length q) ++ (q ++ (blocks qs ++ h ∷ s)) =
    sym (block_split p ps (g ∷ r)) ∙ ap (λ (l : List ℕ). drop 1 l) is ∙ block_split q qs (h ∷ s) in
    let size : length p ≡ length q =
    sym (spelled (length p) (p ++ (blocks ps ++ g ∷ r)) (omega (arith, length-block p ps, small)))
    ∙ ap (λ (l : List ℕ). from_be_bytes w32 (take 4 l)) behind
    ∙ spelled (length q) (q ++ (blocks qs ++ h ∷ s)) (omega (arith, length-block q qs, small')) in
    let after : p ++ (blocks ps ++ g ∷ r) ≡ q ++ (blocks qs ++ h ∷ s) =
    sym (drop_at (length_bytes (length p)) (p ++ (blocks ps ++ g ∷ r)) 4 (length-length_bytes (length p))) ∙ ap (λ (l : List ℕ). drop 4 l) behind
    ∙ drop_at (length_bytes (length q)) (q ++ (blocks qs ++ h ∷ s)) 4 (length-length_bytes (length q)) in
    let first : p ≡ q = sym (take_at p (blocks ps ++ g ∷ r) (length p) refl) ∙ ap (λ (l : List ℕ). take (length p) l) after ∙ take_at q (blocks qs ++ h ∷ s) (length p) (sym size) in
    let others : blocks ps ++ g ∷ r ≡ blocks qs ++ h ∷ s = sym (drop_at p (blocks ps ++ g ∷ r) (length p) refl) ∙ ap (λ (l : List ℕ). drop (length p) l) after ∙ drop_at q (blocks qs ++ h ∷ s) (length p) (sym size) in
    elim (compare ps qs g h r s (omega (arith, length-block p ps, small)) (omega (arith, length-block q qs, small')) others) [
      | both_end lists gates ↦ both_end (ap (λ (l : List ℕ). l ∷ ps) first ∙ ap (λ (l : List (List ℕ)). q ∷ l) lists) gates
      | first_ends is_open more ↦ first_ends is_open (omega (arith, more, size, length-block p ps, length-block q qs))
      | second_ends is_open more ↦ second_ends is_open (omega (arith, more, size, length-block p ps, length-block q qs))
    ]

-- a half is filled by one list of payloads
filled_once : (image : List ℕ) (base half gate gate' : ℕ) (payloads others : List (List ℕ)) → half < 2 ^ 32 → IsFilled image base half gate payloads → IsFilled image base half gate' others → payloads ≡ others
filled_once image base half gate gate' payloads others small r s =
    elim (compare payloads others r.byte s.byte r.rest s.rest (omega (arith, r.ends, r.inside, small)) (omega (arith, s.ends, s.inside, small)) (sym r.bytes_are ∙ s.bytes_are)) [
      | both_end lists gates ↦ lists
      | first_ends is_open more ↦ absurd (r.closed is_open)
      | second_ends is_open more ↦ absurd (s.closed is_open)
    ]

-- and then no piece passes its end
filled_passed : (image : List ℕ) (base half gate gate' : ℕ) (payloads : List (List ℕ)) → half < 2 ^ 32 → IsFilled image base half gate payloads → IsPassed image base half gate' → ⊥
filled_passed image base half gate gate' payloads small r d =
    elim (compare payloads d.payloads r.byte 1 r.rest d.rest (omega (arith, r.ends, r.inside, small)) (omega (arith, d.ends, d.inside, small)) (sym r.bytes_are ∙ d.bytes_are)) [
      | both_end lists gates ↦ r.closed gates
      | first_ends is_open more ↦ r.closed is_open
      | second_ends is_open more ↦ omega (arith, more, r.ends, r.inside, d.ends, d.passes)
    ]

-- or the first that does is one
passed_once : (image : List ℕ) (base half gate gate' : ℕ) → half < 2 ^ 32 → IsPassed image base half gate → IsPassed image base half gate' → gate ≡ gate'
passed_once image base half gate gate' small d e =
    elim (compare d.payloads e.payloads 1 1 d.rest e.rest (omega (arith, d.ends, d.inside, small)) (omega (arith, e.ends, e.inside, small)) (sym d.bytes_are ∙ e.bytes_are)) [
      | both_end lists gates ↦ sym d.ends ∙ ap (λ (l : List (List ℕ)). 9 + length (blocks l)) lists ∙ e.ends
      | first_ends is_open more ↦ absurd (omega (arith, more, d.ends, d.passes, e.ends, e.inside))
      | second_ends is_open more ↦ absurd (omega (arith, more, e.ends, e.passes, d.ends, d.inside))
    ]

-- one half is current, so two places differ in their gates at most
aligned : (image : List ℕ) (j k : Place) → j.half ≡ k.half → IsCurrent image j → IsCurrent image k → k ≡ record j { gate = k.gate }
aligned image j k same a b =
    let second : k.second ≡ j.second = b.which ∙ ap (λ (h : ℕ). picks_second (opens image 0) (opens image h) (generation_at image 0) (generation_at image h)) (sym same) ∙ sym a.which in
    let generation : k.generation ≡ j.generation = b.generation ∙ ap (λ (h : ℕ). picked (opens image 0) (opens image h) (generation_at image 0) (generation_at image h)) (sym same) ∙ sym a.generation in
    ap (λ (h : ℕ). record k { half = h }) (sym same) ∙ ap (λ (b : Bool). record k { half = j.half; second = b }) second ∙ ap (λ (n : ℕ). record k { half = j.half; second = j.second; generation = n }) generation

pub same_payloads : (image : List ℕ) (j k : Place) (payloads others : List (List ℕ)) → j.half ≡ k.half → j.half < 2 ^ 32 → Recovers image j payloads → Recovers image k others → payloads ≡ others
same_payloads image j k payloads others same small r s =
    filled_once image (base_of j) j.half j.gate k.gate payloads others small r.filled (subst (λ (p : Place). IsFilled image (base_of p) p.half k.gate others) (aligned image j k same r.current s.current) s.filled)

pub same_place : (image : List ℕ) (j k : Place) (payloads others : List (List ℕ)) → j.half ≡ k.half → j.half < 2 ^ 32 → Recovers image j payloads → Recovers image k others → j ≡ k
same_place image j k payloads others same small r s =
    let gate : j.gate ≡ k.gate = sym r.filled.ends ∙ ap (λ (l : List (List ℕ)). 9 + length (blocks l)) (same_payloads image j k payloads others same small r s) ∙ s.filled.ends in
    ap (λ (n : ℕ). record j { gate = n }) gate ∙ sym (aligned image j k same r.current s.current)

pub undamaged : (image : List ℕ) (half at : ℕ) (payloads : List (List ℕ)) → half < 2 ^ 32 → StandsFor image half payloads → IsDamagedAt image half at → ⊥
undamaged image half at payloads small r d =
    let j = r.0 in
    let k = d.0 in
    filled_passed image (base_of j) j.half j.gate k.gate payloads (omega (arith, r.1, small)) r.2.filled
    (subst (λ (p : Place). IsPassed image (base_of p) p.half k.gate) (aligned image j k (r.1 ∙ sym d.1) r.2.current d.3.current) d.3.passed)

pub same_damage : (image : List ℕ) (half at other : ℕ) → half < 2 ^ 32 → IsDamagedAt image half at → IsDamagedAt image half other → at ≡ other
same_damage image half at other small d e =
    let j = d.0 in
    let k = e.0 in
    let one = aligned image j k (d.1 ∙ sym e.1) d.3.current e.3.current in
    let gate = passed_once image (base_of j) j.half j.gate k.gate (omega (arith, d.1, small)) d.3.passed (subst (λ (p : Place). IsPassed image (base_of p) p.half k.gate) one e.3.passed) in
    omega (arith, ap base_of one, gate, d.2, e.2)

-- a fault that isn't of the disk's size nor of a damage
pub hindered : (why : MountFault) → ((size : ℕ) → why ≡ fault.TooSmall size → ⊥) → ((at : ℕ) → why ≡ fault.Damaged at → ⊥) → IsHindrance why
hindered (fault.TooSmall size) never_small never_damaged = absurd (never_small size refl)
hindered fault.DiskFault never_small never_damaged = inl refl
hindered (fault.Damaged at) never_small never_damaged = absurd (never_damaged at refl)
hindered fault.NoMemory never_small never_damaged = inr refl

pub damaged_or_hindered : (why : MountFault) (here : ℕ) → ((size : ℕ) → why ≡ fault.TooSmall size → ⊥) → ((at : ℕ) → why ≡ fault.Damaged at → at ≡ here) → (why ≡ fault.Damaged here) ⊎ IsHindrance why
damaged_or_hindered (fault.TooSmall size) here never_small once = absurd (never_small size refl)
damaged_or_hindered fault.DiskFault here never_small once = inr (inl refl)
damaged_or_hindered (fault.Damaged at) here never_small once = inl (ap (λ (k : ℕ). fault.Damaged k) (once at refl))
damaged_or_hindered fault.NoMemory here never_small once = inr (inr refl)
