-- What a mounting has read so far.
use Rattle.std.proofs.Common.{◌≡◌, ◌≢◌, ℕ, cond, ◌+◌, ◌-◌, ◌<◌, ◌≤◌, List, [], ◌∷◌, ◌++◌, length, get_or, take, drop, Result, Ok, Err, IfOk, sym, ◌∙◌, ap, arith, append_assoc, take-append-drop}
use Rattle.std.proofs.lemmas.List.{drop_more, drop-drop, take-take, drop-take}
use Rattle.std.specs.Int.{w32, w64, from_be_bytes}
use Rattle.gate_journal.specs.Half.{length_bytes, blocks, opens, generation_at, picks_second, picked, IsFilled, IsPassed}
use Rattle.gate_journal.specs.Doubt.{HasHeads}
use Rattle.gate_journal.specs.Read.{place_read}
use Rattle.gate_journal.specs.declared.heads.Head.{Head}
use Rattle.gate_journal.specs.declared.heads.Current.{Current}
use Rattle.gate_journal.proofs.HeadLemmas.{heads_read}
use Rattle.gate_journal.specs.Pieces.{places_from}
use Rattle.gate_journal.proofs.BlockLemmas.{length-block, blocks-push}

-- the generation in the first nine bytes of a half
pub generation_read : (seen bytes : List ℕ) (base : ℕ) → bytes ≡ take 9 (drop base seen) → generation_at bytes 0 ≡ generation_at seen base
generation_read seen bytes base is =
    ap (λ (l : List ℕ). generation_at l 0) is
    ∙ ap (λ (l : List ℕ). from_be_bytes w64 (take 8 l)) (drop-take 1 8 (drop base seen))
    ∙ ap (λ (l : List ℕ). from_be_bytes w64 l) (take-take 8 8 (drop 1 (drop base seen)) (omega arith))
    ∙ ap (λ (l : List ℕ). from_be_bytes w64 (take 8 l)) (drop-drop 1 base seen)

pub split_piece : (seen : List ℕ) (at n : ℕ) (head payload : List ℕ) → head ≡ take 4 (drop (at + 1) seen) → payload ≡ take n (drop (at + 5) seen)
    → drop (at + 1) seen ≡ head ++ payload ++ drop (at + 5 + n) seen
split_piece seen at n head payload head_is payload_is =
    let five : at + 1 + 4 ≡ at + 5 = omega arith in
    let behind : drop 4 (drop (at + 1) seen) ≡ drop (at + 5) seen = drop-drop 4 (at + 1) seen ∙ ap (λ (k : ℕ). drop k seen) five in
    let rest : drop (at + 5) seen ≡ payload ++ drop (at + 5 + n) seen =
    sym (take-append-drop n (drop (at + 5) seen)) ∙ ap (λ (l : List ℕ). l ++ drop n (drop (at + 5) seen)) (sym payload_is) ∙ ap (λ (l : List ℕ). payload ++ l) (drop-drop n (at + 5) seen) in
    sym (take-append-drop 4 (drop (at + 1) seen)) ∙ ap (λ (l : List ℕ). l ++ drop 4 (drop (at + 1) seen)) (sym head_is)
    ∙ ap (λ (l : List ℕ). head ++ l) (behind ∙ rest) ∙ sym (append_assoc head payload (drop (at + 5 + n) seen))

-- the pieces so far, and one more
pub one_more : (seen : List ℕ) (base at : ℕ) (payloads : List (List ℕ)) (payload : List ℕ) → drop (base + 9) seen ≡ blocks payloads ++ drop at seen → at < length seen → get_or seen at 0 ≡ 1
    → drop (at + 1) seen ≡ length_bytes (length payload) ++ payload ++ drop (at + 5 + length payload) seen
    → drop (base + 9) seen ≡ blocks (payloads ++ payload ∷ []) ++ drop (at + 5 + length payload) seen
one_more seen base at payloads payload so_far inside is_open piece =
    let head = length_bytes (length payload) in
    let rest = drop (at + 5 + length payload) seen in
    so_far
    ∙ ap (λ (l : List ℕ). blocks payloads ++ l) (drop_more seen at 0 inside ∙ ap (λ (g : ℕ). g ∷ drop (at + 1) seen) is_open ∙ ap (λ (l : List ℕ). 1 ∷ l) piece)
    ∙ sym (append_assoc (blocks payloads) (1 ∷ (head ++ payload)) rest)
    ∙ ap (λ (l : List ℕ). l ++ rest) (sym (blocks-push payloads payload))

module _ (seen : List ℕ) (base half at : ℕ) (payloads : List (List ℕ)) (so_far : drop (base + 9) seen ≡ blocks payloads ++ drop at seen) (ends : base + 9 + length (blocks payloads) ≡ at) (inside : at < base + half) (room : base + half ≤ length seen) where
  at_gate : drop (base + 9) seen ≡ blocks payloads ++ get_or seen at 0 ∷ drop (at + 1) seen
  at_gate = so_far ∙ ap (λ (l : List ℕ). blocks payloads ++ l) (drop_more seen at 0 (omega (arith, inside, room)))

  pub ended : get_or seen at 0 ≢ 1 → IsFilled seen base half (at - base) payloads
  ended closed =
      record { byte = get_or seen at 0; rest = drop (at + 1) seen; bytes_are = at_gate; ends = omega (arith, ends); inside = omega (arith, ends, inside); closed = closed }

  pub passed : get_or seen at 0 ≡ 1 → base + half < at + 6 + from_be_bytes w32 (take 4 (drop (at + 1) seen)) → IsPassed seen base half (at - base)
  passed is_open passes = record {
    payloads = payloads;
    rest = drop (at + 1) seen;
    bytes_are = at_gate ∙ ap (λ (g : ℕ). blocks payloads ++ g ∷ drop (at + 1) seen) is_open;
    ends = omega (arith, ends);
    inside = omega (arith, ends, inside);
    passes = omega (arith, ends, inside, passes);
  }

-- the places of the gates, one more
pub places_from-push : (at : ℕ) (payloads : List (List ℕ)) (payload : List ℕ) → places_from at (payloads ++ payload ∷ []) ≡ places_from at payloads ++ (at + length (blocks payloads)) ∷ []
places_from-push at [] payload = ap (λ (k : ℕ). k ∷ []) (omega arith)
places_from-push at (p ∷ payloads) payload =
    ap (λ (l : List ℕ). at ∷ l) (places_from-push (at + 5 + length p) payloads payload
    ∙ ap (λ (k : ℕ). places_from (at + 5 + length p) payloads ++ k ∷ []) (omega (arith, length-block p payloads)))

-- two facts of a value, and what follows
pub if_ok : {T E : Type 0} (r : Result T E) (P Q R : T → Type 0) → IfOk r P → IfOk r Q → ((x : T) → P x → Q x → R x) → IfOk r R
if_ok (Ok x) P Q R p q f = f x p q
if_ok (Err e) P Q R p q f = tt

-- the current half by the heads that were read
pub current_read : (image : List ℕ) (half gate : ℕ) (first second : Head) (current : Current) → first.is_open ≡ opens image 0 → first.generation ≡ generation_at image 0 → second.is_open ≡ opens image half → second.generation ≡ generation_at image half
    → current.is_second ≡ picks_second first.is_open second.is_open first.generation second.generation → current.generation ≡ picked first.is_open second.is_open first.generation second.generation
    → current.is_open ≡ cond current.is_second second.is_open first.is_open → current.may_open ≡ cond current.is_second first.is_open second.is_open
    → HasHeads image (place_read half current gate) current.is_open current.may_open
current_read image half gate first second current a m b n which generation own other =
    rw (own, other, which, generation) (heads_read image half gate first.generation second.generation first.is_open second.is_open (sym a) (sym b) (sym m) (sym n))
