-- What a write leaves outside the range that it tears, and what stands there once it is done.
use Rattle.std.proofs.Common.{◌≡◌, ◌⊎◌, inl, inr, ℕ, ◌+◌, ◌-◌, ◌<◌, ◌≤◌, List, [], ◌∷◌, ◌++◌, length, eqb, get_or, take, drop, refl, sym, ◌∙◌, ap, arith, append_assoc, length-append, length-take, take-append-drop, get_or-drop, get_or-take}
use Rattle.std.proofs.lemmas.List.{take_at, drop_at, drop-drop, take-take, drop-take}
use Rattle.std.specs.Int.{w64, from_be_bytes}
use Rattle.lti_outside.specs.Disk.{Holds, Torn}
use Rattle.gate_journal.specs.Half.{blocks, opens, generation_at, IsFilled}

-- what stands behind the range
behind : (d c : List ℕ) (place n k : ℕ) → Torn place n d c → place + n ≤ k → drop k c ≡ drop k d
behind d c place n k torn le =
    let same : place + n + (k - (place + n)) ≡ k = omega arith in
    ap (λ (i : ℕ). drop i c) (sym same) ∙ sym (drop-drop (k - (place + n)) (place + n) c) ∙ ap (λ (l : List ℕ). drop (k - (place + n)) l) torn.after
    ∙ drop-drop (k - (place + n)) (place + n) d ∙ ap (λ (i : ℕ). drop i d) same

-- and before it
ahead : (d c : List ℕ) (place n k : ℕ) → Torn place n d c → k ≤ place → take k c ≡ take k d
ahead d c place n k torn le = sym (take-take k place c le) ∙ ap (λ (l : List ℕ). take k l) torn.before ∙ take-take k place d le

-- bytes that end before the range
pub front_kept : (d c : List ℕ) (place n k : ℕ) (front rest : List ℕ) → Torn place n d c → k + length front ≤ place → drop k d ≡ front ++ rest → drop k c ≡ front ++ drop (k + length front) c
front_kept d c place n k front rest torn le is =
    let kept : take (length front) (drop k c) ≡ front =
    sym (drop-take k (length front) c) ∙ ap (λ (l : List ℕ). drop k l) (ahead d c place n (k + length front) torn le) ∙ drop-take k (length front) d
    ∙ ap (λ (l : List ℕ). take (length front) l) is ∙ take_at front rest (length front) refl in
    sym (take-append-drop (length front) (drop k c)) ∙ ap (λ (l : List ℕ). l ++ drop (length front) (drop k c)) kept ∙ ap (λ (l : List ℕ). front ++ l) (drop-drop (length front) k c)

-- what stands behind them
pub rest_at : (image : List ℕ) (k place : ℕ) (front rest : List ℕ) → drop k image ≡ front ++ rest → k + length front ≡ place → drop place image ≡ rest
rest_at image k place front rest is ends =
    ap (λ (i : ℕ). drop i image) (sym ends) ∙ sym (drop-drop (length front) k image) ∙ ap (λ (l : List ℕ). drop (length front) l) is ∙ drop_at front rest (length front) refl

-- a byte outside the range
byte_before : (d c : List ℕ) (place n k : ℕ) → Torn place n d c → k < place → get_or c k 0 ≡ get_or d k 0
byte_before d c place n k torn lt = sym (get_or-take place c k 0 lt) ∙ ap (λ (l : List ℕ). get_or l k 0) torn.before ∙ get_or-take place d k 0 lt

first_byte : (l : List ℕ) (k : ℕ) → get_or l k 0 ≡ get_or (drop k l) 0 0
first_byte l k = let zero_more : k ≡ k + 0 = omega arith in ap (λ (i : ℕ). get_or l i 0) zero_more ∙ sym (get_or-drop k l 0 0)

-- the gate of a half before the range
pub gate_before : (d c : List ℕ) (place n base : ℕ) → Torn place n d c → base < place → opens c base ≡ opens d base
gate_before d c place n base torn lt = ap (λ (k : ℕ). eqb k 1) (byte_before d c place n base torn lt)

-- the generation of a half whose gate at most is in the range
pub generation_behind : (d c : List ℕ) (place n base : ℕ) → Torn place n d c → place + n ≤ base + 1 → generation_at c base ≡ generation_at d base
generation_behind d c place n base torn le = ap (λ (l : List ℕ). from_be_bytes w64 (take 8 l)) (behind d c place n (base + 1) torn le)

-- the head of a half outside the range
pub head_kept : (d c : List ℕ) (place n base : ℕ) → Torn place n d c → (base + 9 ≤ place) ⊎ (place + n ≤ base) → (opens c base ≡ opens d base) × (generation_at c base ≡ generation_at d base)
head_kept d c place n base torn (inl le) =
    let part : (l : List ℕ) → take 8 (drop (base + 1) l) ≡ drop (base + 1) (take (base + 1 + 8) l) = λ l. sym (drop-take (base + 1) 8 l) in (
      gate_before d c place n base torn (omega (arith, le)),
      ap (λ (l : List ℕ). from_be_bytes w64 l) (part c ∙ ap (λ (l : List ℕ). drop (base + 1) l) (ahead d c place n (base + 1 + 8) torn (omega (arith, le))) ∙ sym (part d)),
    )
head_kept d c place n base torn (inr le) = (
  ap (λ (k : ℕ). eqb k 1) (first_byte c base ∙ ap (λ (l : List ℕ). get_or l 0 0) (behind d c place n base torn le) ∙ sym (first_byte d base)),
  generation_behind d c place n base torn (omega (arith, le)),
)

-- a half that is filled stays so where the range lies behind its end gate
pub filled_behind : (d c : List ℕ) (base half gate : ℕ) (payloads : List (List ℕ)) (place n : ℕ) → IsFilled d base half gate payloads → Torn place n d c → base + gate + 1 ≤ place → IsFilled c base half gate payloads
filled_behind d c base half gate payloads place n r torn le =
    let front = blocks payloads ++ r.byte ∷ [] in
    let split : drop (base + 9) d ≡ front ++ r.rest = r.bytes_are ∙ sym (append_assoc (blocks payloads) (r.byte ∷ []) r.rest) in
    record {
      byte = r.byte;
      rest = drop (base + 9 + length front) c;
      bytes_are = front_kept d c place n (base + 9) front r.rest torn (omega (arith, length-append (blocks payloads) (r.byte ∷ []), r.ends, le)) split
          ∙ append_assoc (blocks payloads) (r.byte ∷ []) (drop (base + 9 + length front) c);
      ends = r.ends;
      inside = r.inside;
      closed = r.closed;
    }

-- or before its pieces
pub filled_before : (d c : List ℕ) (base half gate : ℕ) (payloads : List (List ℕ)) (place n : ℕ) → IsFilled d base half gate payloads → Torn place n d c → place + n ≤ base + 9 → IsFilled c base half gate payloads
filled_before d c base half gate payloads place n r torn le =
    record { byte = r.byte; rest = r.rest; bytes_are = behind d c place n (base + 9) torn le ∙ r.bytes_are; ends = r.ends; inside = r.inside; closed = r.closed }

-- bytes that were written
pub written_at : (d c : List ℕ) (place : ℕ) (bytes : List ℕ) → place ≤ length d → Holds d place bytes c → drop place c ≡ bytes ++ drop (place + length bytes) d
written_at d c place bytes inside holds =
    ap (λ (l : List ℕ). drop place l) (holds ∙ append_assoc (take place d) bytes (drop (place + length bytes) d))
    ∙ drop_at (take place d) (bytes ++ drop (place + length bytes) d) place (length-take place d ∙ (omega (arith, inside)))

pub byte_written : (d c : List ℕ) (place byte : ℕ) → place < length d → Holds d place (byte ∷ []) c → get_or c place 0 ≡ byte
byte_written d c place byte inside holds = first_byte c place ∙ ap (λ (l : List ℕ). get_or l 0 0) (written_at d c place (byte ∷ []) (omega (arith, inside)) holds)
