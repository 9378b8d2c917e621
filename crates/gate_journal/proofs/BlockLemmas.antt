-- Pieces, one after another.
use Rattle.std.proofs.Common.{◌≡◌, ℕ, ◌+◌, ◌≤◌, List, [], ◌∷◌, ◌++◌, length, take, refl, sym, ◌∙◌, ap, arith, append_assoc, length-append}
use Rattle.std.proofs.lemmas.List.{append-nil, take_at}
use Rattle.std.proofs.lemmas.Nat.{from_be_bytes-to_be_bytes_8}
use Rattle.std.specs.Int.{w64, to_be_bytes, from_be_bytes}
use Rattle.gate_journal.specs.Half.{length_bytes, blocks, framed, packed_of, packed_generation, IsPacked}

pub length-length_bytes : (n : ℕ) → length (length_bytes n) ≡ 4
length-length_bytes n = refl

pub length-framed : (payload : List ℕ) → length (framed payload) ≡ length payload + 5
length-framed payload =
    let bytes = length_bytes (length payload) in
    omega (arith, length-append (bytes ++ payload) (0 ∷ []), length-append bytes payload, length-length_bytes (length payload))

pub length-packed_of : (generation : ℕ) (packed : List (List ℕ)) → length (packed_of generation packed) ≡ 9 + length (blocks packed)
length-packed_of generation packed =
    let head = to_be_bytes w64 generation in
    let eight : length head ≡ 8 = refl in
    omega (arith, length-append (head ++ blocks packed) (0 ∷ []), length-append head (blocks packed), eight)

pub length-block : (p : List ℕ) (ps : List (List ℕ)) → length (blocks (p ∷ ps)) ≡ 5 + length p + length (blocks ps)
length-block p ps = omega (arith, length-append (length_bytes (length p) ++ p) (blocks ps), length-append (length_bytes (length p)) p, length-length_bytes (length p))

pub blocks-append : (ps qs : List (List ℕ)) → blocks (ps ++ qs) ≡ blocks ps ++ blocks qs
blocks-append [] qs = refl
blocks-append (p ∷ ps) qs =
    ap (λ (l : List ℕ). 1 ∷ (length_bytes (length p) ++ p ++ l)) (blocks-append ps qs)
    ∙ ap (λ (l : List ℕ). 1 ∷ l) (sym (append_assoc (length_bytes (length p) ++ p) (blocks ps) (blocks qs)))

pub blocks-push : (payloads : List (List ℕ)) (payload : List ℕ) → blocks (payloads ++ payload ∷ []) ≡ blocks payloads ++ 1 ∷ (length_bytes (length payload) ++ payload)
blocks-push payloads payload =
    blocks-append payloads (payload ∷ []) ∙ ap (λ (l : List ℕ). blocks payloads ++ 1 ∷ l) (append-nil (length_bytes (length payload) ++ payload))

pub length-blocks-push : (payloads : List (List ℕ)) (payload : List ℕ) → length (blocks (payloads ++ payload ∷ [])) ≡ length (blocks payloads) + 5 + length payload
length-blocks-push payloads payload =
    let bytes = length_bytes (length payload) in
    omega (arith, ap length (blocks-push payloads payload), length-append (blocks payloads) (1 ∷ (bytes ++ payload)), length-append bytes payload, length-length_bytes (length payload))

-- the generation of packed pieces is the one that they were packed with
pub packed_generation-is : (generation : ℕ) (bytes : List ℕ) → IsPacked generation bytes → packed_generation bytes ≡ generation
packed_generation-is generation bytes packed =
    let head = to_be_bytes w64 generation in
    let eight : length head ≡ 8 = refl in
    ap (λ (l : List ℕ). from_be_bytes w64 (take 8 l)) (packed.bytes_are ∙ append_assoc head (blocks packed.pieces) (0 ∷ []))
    ∙ ap (λ (l : List ℕ). from_be_bytes w64 l) (take_at head (blocks packed.pieces ++ 0 ∷ []) 8 eight)
    ∙ from_be_bytes-to_be_bytes_8 generation packed.small

pub IsPacked-long : (generation : ℕ) (bytes : List ℕ) → IsPacked generation bytes → 9 ≤ length bytes
IsPacked-long generation bytes packed = omega (arith, ap length packed.bytes_are, length-packed_of generation packed.pieces)
