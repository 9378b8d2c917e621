-- Packed pieces behind the gate of the other half: what a crash leaves while they are written, and while the gate is.
use Rattle.std.proofs.Common.{◌≡◌, inl, inr, ⊎_elim, ℕ, ◌+◌, ◌*◌, ◌^◌, ◌<◌, ◌≤◌, Bool, true, false, not, cond, eqb, List, [], ◌∷◌, ◌++◌, length, take, drop, refl, sym, ◌∙◌, ap, subst, arith, append_assoc}
use Rattle.std.proofs.lemmas.List.{take_at}
use Rattle.std.proofs.lemmas.Bool.{false≢true, cases_Bool}
use Rattle.std.proofs.lemmas.Nat.{from_be_bytes-to_be_bytes_8}
use Rattle.std.specs.Int.{w64, to_be_bytes, from_be_bytes}
use Rattle.lti_outside.specs.Disk.{Torn, Holds}
use Rattle.gate_journal.specs.Half.{Place, base_of, other_base, blocks, packed_of, opens, generation_at, IsFilled, IsEither}
use Rattle.gate_journal.specs.Doubt.{Stands, IsHalfInDoubt}
use Rattle.gate_journal.proofs.BlockLemmas.{length-packed_of}
use Rattle.gate_journal.proofs.ElsewhereLemmas.{gate_before, generation_behind, filled_before, rest_at, written_at, byte_written}
use Rattle.gate_journal.proofs.HeadLemmas.{heads_shut, own_kept, filled_kept, Stands-for, Stands-either, other_within}
use Rattle.gate_journal.proofs.StepLemmas.{Step, Opens}

-- the halves the other way round
swapped : (second : Bool) (a b : ℕ) → cond (not second) a b ≡ cond second b a
swapped true a b = refl
swapped false a b = refl

module _ (j : Place) (is_open may_open : Bool) (payloads : List (List ℕ)) (place : ℕ) (nine : 9 ≤ j.half) (at : place ≡ other_base j) where
  abbrev Old : List ℕ → Type 0
  Old image = Stands image j is_open may_open payloads

  -- the gate of the other half is written
  gate_opens : (d c : List ℕ) (byte : ℕ) → 2 * j.half ≤ length d → Holds d place (byte ∷ []) c → opens c (other_base j) ≡ eqb byte 1
  gate_opens d c byte room holds =
      let within = other_within j (length d) room in
      ap (λ (k : ℕ). opens c k) (sym at) ∙ ap (λ (b : ℕ). eqb b 1) (byte_written d c place byte (omega (arith, at, within, nine)) holds)

  generation_same : (d c : List ℕ) → Torn place 1 d c → generation_at c (other_base j) ≡ generation_at d (other_base j)
  generation_same d c torn = generation_behind d c place 1 (other_base j) torn (omega (arith, at))

  -- it is closed where it may be open
  pub shutting : may_open ≡ true → Step Old (λ image. Stands image j is_open false payloads) j.half place (0 ∷ [])
  shutting may = record {
    torn = λ d c s torn. record {
      filled = filled_kept d c j payloads place 1 s.filled torn (omega (arith, at)) (omega (arith, at, nine));
      heads = record {
        own = own_kept d c j is_open place 1 nine s.heads.own torn (omega (arith, at)) (omega (arith, at, nine));
        other_shut = λ is. absurd (false≢true (sym is ∙ may));
        other_harmless = λ is.
            let harmless = s.heads.other_harmless is in
            let same = generation_same d c torn in
            (harmless.0, record { below = omega (arith, same, harmless.1.below); strictly = λ second. omega (arith, same, harmless.1.strictly second) });
      };
    };
    done = λ d c room s torn holds. record {
      filled = filled_kept d c j payloads place 1 s.filled torn (omega (arith, at)) (omega (arith, at, nine));
      heads = heads_shut c j is_open false refl (own_kept d c j is_open place 1 nine s.heads.own torn (omega (arith, at)) (omega (arith, at, nine))) (gate_opens d c 0 room holds);
    };
  }

  module _ (shut : may_open ≡ false) (generation : ℕ) (packed : List (List ℕ)) where
    abbrev InDoubt : List ℕ → Type 0
    InDoubt image = IsHalfInDoubt image j is_open generation payloads packed

    -- the packed pieces stand whole in each outcome of a write of their gate
    gate_torn : (d c : List ℕ) → InDoubt d → Torn place 1 d c → InDoubt c
    gate_torn d c s torn = record {
      filled = filled_kept d c j payloads place 1 s.filled torn (omega (arith, at)) (omega (arith, at, nine));
      own = own_kept d c j is_open place 1 nine s.own torn (omega (arith, at)) (omega (arith, at, nine));
      other = filled_before d c (other_base j) j.half (9 + length (blocks packed)) packed place 1 s.other torn (omega (arith, at));
      next = generation_same d c torn ∙ s.next;
      above = s.above;
    }

    abbrev next : ℕ → Place
    next gate = record { half = j.half; second = not j.second; generation = generation; gate = gate }

    -- with an open gate the disk stands for them
    opened : (gate : ℕ) → 9 + length (blocks packed) ≡ gate → (c : List ℕ) → InDoubt c → opens c (other_base j) ≡ true → Stands c (next gate) true is_open packed
    opened gate ends c s gate_open =
        let base : base_of (next gate) ≡ other_base j = swapped j.second j.half 0 in
        let other : other_base (next gate) ≡ base_of j = swapped j.second 0 j.half in
        record {
          filled = subst (λ (b : ℕ). IsFilled c b j.half gate packed) (sym base) (subst (λ (k : ℕ). IsFilled c (other_base j) j.half k packed) ends s.other);
          heads = record {
            own = record {
              gate = ap (λ (b : ℕ). opens c b) base ∙ gate_open;
              when_open = λ is. ap (λ (b : ℕ). generation_at c b) base ∙ s.next;
              when_shut = λ is. absurd (false≢true (sym is));
            };
            other_shut = λ is. ap (λ (b : ℕ). opens c b) other ∙ s.own.gate ∙ is;
            other_harmless = λ is.
                let old : generation_at c (other_base (next gate)) ≡ j.generation = ap (λ (b : ℕ). generation_at c b) other ∙ s.own.when_open is in
                (refl, record { below = omega (arith, old, s.above); strictly = λ second. omega (arith, old, s.above) });
          };
        }

    -- with a closed one for the old ones
    not_opened : (c : List ℕ) → InDoubt c → opens c (other_base j) ≡ false → Old c
    not_opened c s gate_shut = record { filled = s.filled; heads = heads_shut c j is_open may_open shut s.own gate_shut }

    pub packed_or_not : (c : List ℕ) → InDoubt c → IsEither j.half payloads packed c
    packed_or_not c s = ⊎_elim
        (λ gate_open. inr (Stands-for c (next (9 + length (blocks packed))) true is_open packed (opened (9 + length (blocks packed)) refl c s gate_open)))
        (λ gate_shut. inl (Stands-for c j is_open may_open payloads (not_opened c s gate_shut)))
        (cases_Bool (opens c (other_base j)))

    -- the gate is closed
    pub closing : Step InDoubt Old j.half place (0 ∷ [])
    closing = record { torn = gate_torn; done = λ d c room s torn holds. not_opened c (gate_torn d c s torn) (gate_opens d c 0 room holds) }

    module _ (bytes : List ℕ) (is : bytes ≡ packed_of generation packed) (fits : length bytes < j.half) (small : generation < 2 ^ 64) (above : j.generation < generation) where
      -- while the packed pieces are written, the gate before them is closed
      writing_torn : (d c : List ℕ) → Old d → Torn (place + 1) (length bytes) d c → Old c
      writing_torn d c s torn = record {
        filled = filled_kept d c j payloads (place + 1) (length bytes) s.filled torn (omega (arith, at)) (omega (arith, at, fits));
        heads = heads_shut c j is_open may_open shut (own_kept d c j is_open (place + 1) (length bytes) nine s.heads.own torn (omega (arith, at)) (omega (arith, at, fits)))
            (gate_before d c (place + 1) (length bytes) (other_base j) torn (omega (arith, at)) ∙ s.heads.other_shut shut);
      }

      -- once they are, they stand whole
      packed_written : (d c : List ℕ) → 2 * j.half ≤ length d → Old d → Torn (place + 1) (length bytes) d c → Holds d (place + 1) bytes c → InDoubt c
      packed_written d c room s torn holds =
          let still = writing_torn d c s torn in
          let within = other_within j (length d) room in
          let head = to_be_bytes w64 generation in
          let eight : length head ≡ 8 = refl in
          let long : length bytes ≡ 9 + length (blocks packed) = ap length is ∙ length-packed_of generation packed in
          let rest = drop (place + 1 + length bytes) d in
          let behind : drop (other_base j + 1) c ≡ head ++ (blocks packed ++ 0 ∷ rest) =
          ap (λ (k : ℕ). drop (k + 1) c) (sym at) ∙ written_at d c (place + 1) bytes (omega (arith, at, within, nine)) holds ∙ ap (λ (l : List ℕ). l ++ rest) is
          ∙ append_assoc (head ++ blocks packed) (0 ∷ []) rest ∙ append_assoc head (blocks packed) (0 ∷ rest) in
          record {
            filled = still.filled;
            own = still.heads.own;
            other = record {
              byte = 0;
              rest = rest;
              bytes_are = rest_at c (other_base j + 1) (other_base j + 9) head (blocks packed ++ 0 ∷ rest) behind (omega (arith, eight));
              ends = refl;
              inside = omega (arith, long, fits);
              closed = omega arith;
            };
            next = ap (λ (l : List ℕ). from_be_bytes w64 (take 8 l)) behind ∙ ap (λ (l : List ℕ). from_be_bytes w64 l) (take_at head (blocks packed ++ 0 ∷ rest) 8 eight)
                ∙ from_be_bytes-to_be_bytes_8 generation small;
            above = above;
          }

      -- the last two writes of a compaction
      pub packed_opens : Opens Old InDoubt (λ image. Stands image (next (length bytes)) true is_open packed) (IsEither j.half payloads packed) j.half place bytes
      packed_opens = record {
        writing = record { torn = writing_torn; done = packed_written };
        opening = record {
          torn = gate_torn;
          done = λ d c room s torn holds. opened (length bytes) (omega (arith, ap length is, length-packed_of generation packed)) c (gate_torn d c s torn) (gate_opens d c 1 room holds);
        };
        before = Stands-either j is_open may_open payloads packed;
        between = packed_or_not;
      }
