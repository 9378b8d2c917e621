-- A piece behind the end gate: what a crash leaves while it is written, and while its gate is.
use Rattle.std.proofs.Common.{◌≡◌, ◌≢◌, inl, inr, ℕ, ◌+◌, ◌<◌, ◌≤◌, Bool, List, [], ◌∷◌, ◌++◌, length, get_or, drop, refl, sym, ◌∙◌, ap, arith, append_assoc, length-append, length-drop}
use Rattle.std.proofs.lemmas.List.{drop_more, drop-drop}
use Rattle.std.proofs.lemmas.Bool.{cases_eq}
use Rattle.lti_outside.specs.Disk.{Holds, Torn}
use Rattle.gate_journal.specs.Half.{Place, base_of, free_of, length_bytes, blocks, framed, payload_of, IsFrame, IsEither}
use Rattle.gate_journal.specs.Doubt.{Stands, IsPieceInDoubt}
use Rattle.gate_journal.proofs.BlockLemmas.{length-framed, blocks-push, length-blocks-push}
use Rattle.gate_journal.proofs.ElsewhereLemmas.{front_kept, rest_at, filled_behind, written_at, byte_written}
use Rattle.gate_journal.proofs.HeadLemmas.{heads_kept, Stands-for, Stands-either}
use Rattle.gate_journal.proofs.StepLemmas.{Step, Opens}

module _ (j : Place) (is_open may_open : Bool) (payloads : List (List ℕ)) (payload : List ℕ) (place : ℕ) (nine : 9 ≤ j.half) (at : place ≡ base_of j + j.gate) where
  abbrev Before : List ℕ → Type 0
  Before image = Stands image j is_open may_open payloads

  abbrev InDoubt : List ℕ → Type 0
  InDoubt image = IsPieceInDoubt image j is_open may_open payloads payload

  gate_at : (d : List ℕ) (r : InDoubt d) → drop place d ≡ r.byte ∷ (framed payload ++ r.rest)
  gate_at d r = rest_at d (base_of j + 9) place (blocks payloads) (r.byte ∷ (framed payload ++ r.rest)) r.bytes_are (omega (arith, at, r.ends))

  gate_inside : (d : List ℕ) → InDoubt d → place < length d
  gate_inside d r = omega (arith, length-drop place d, ap length (gate_at d r))

  -- the piece stands whole in each outcome of a write of its gate
  gate_torn : (d c : List ℕ) → InDoubt d → Torn place 1 d c → InDoubt c
  gate_torn d c r torn =
      let ends : base_of j + 9 + length (blocks payloads) ≡ place = omega (arith, at, r.ends) in
      let behind : drop (place + 1) c ≡ framed payload ++ r.rest = torn.after ∙ sym (drop-drop 1 place d) ∙ ap (λ (l : List ℕ). drop 1 l) (gate_at d r) in
      let inside : place < length c = omega (arith, torn.size, gate_inside d r) in
      record {
        byte = get_or c place 0;
        rest = r.rest;
        bytes_are = front_kept d c place 1 (base_of j + 9) (blocks payloads) (r.byte ∷ (framed payload ++ r.rest)) torn (omega (arith, ends)) r.bytes_are
            ∙ ap (λ (k : ℕ). blocks payloads ++ drop k c) ends
            ∙ ap (λ (l : List ℕ). blocks payloads ++ l) (drop_more c place 0 inside ∙ ap (λ (l : List ℕ). get_or c place 0 ∷ l) behind);
        ends = r.ends;
        inside = r.inside;
        heads = heads_kept d c j is_open may_open place 1 nine r.heads torn (omega (arith, at, r.ends)) (omega (arith, at, r.inside));
      }

  gate_written : (d c : List ℕ) (byte : ℕ) (r : InDoubt d) (torn : Torn place 1 d c) → Holds d place (byte ∷ []) c → (gate_torn d c r torn).byte ≡ byte
  unfolding gate_torn
  gate_written d c byte r torn holds = byte_written d c place byte (gate_inside d r) holds

  -- behind an open gate it counts
  opened : (gate : ℕ) → gate ≡ j.gate + 5 + length payload → (c : List ℕ) (r : InDoubt c) → r.byte ≡ 1 → Stands c (record j { gate = gate }) is_open may_open (payloads ++ payload ∷ [])
  opened gate next c r is_one =
      let bytes = length_bytes (length payload) in record {
        filled = record {
          byte = 0;
          rest = r.rest;
          bytes_are = r.bytes_are
              ∙ ap (λ (g : ℕ). blocks payloads ++ g ∷ (framed payload ++ r.rest)) is_one
              ∙ ap (λ (l : List ℕ). blocks payloads ++ 1 ∷ l) (append_assoc (bytes ++ payload) (0 ∷ []) r.rest)
              ∙ sym (append_assoc (blocks payloads) (1 ∷ (bytes ++ payload)) (0 ∷ r.rest))
              ∙ ap (λ (l : List ℕ). l ++ 0 ∷ r.rest) (sym (blocks-push payloads payload));
          ends = omega (arith, length-blocks-push payloads payload, r.ends, next);
          inside = omega (arith, r.inside, next);
          closed = omega arith;
        };
        heads = record {
          own = record { gate = r.heads.own.gate; when_open = r.heads.own.when_open; when_shut = r.heads.own.when_shut };
          other_shut = r.heads.other_shut;
          other_harmless = λ is. let harmless = r.heads.other_harmless is in (harmless.0, record { below = harmless.1.below; strictly = harmless.1.strictly });
        };
      }

  -- behind another it doesn't
  shut : (c : List ℕ) (r : InDoubt c) → r.byte ≢ 1 → Before c
  shut c r is_shut =
      record { filled = record { byte = r.byte; rest = framed payload ++ r.rest; bytes_are = r.bytes_are; ends = r.ends; inside = omega (arith, r.inside); closed = is_shut }; heads = r.heads }

  pub piece_or_not : (c : List ℕ) → InDoubt c → IsEither j.half payloads (payloads ++ payload ∷ []) c
  piece_or_not c r = elim (cases_eq r.byte 1) [
    | inl is_one ↦ inr (Stands-for c (record j { gate = j.gate + 5 + length payload }) is_open may_open (payloads ++ payload ∷ []) (opened (j.gate + 5 + length payload) refl c r is_one))
    | inr is_shut ↦ inl (Stands-for c j is_open may_open payloads (shut c r is_shut))
  ]

  -- the gate is opened
  opening : (gate : ℕ) → gate ≡ j.gate + 5 + length payload → Step InDoubt (λ image. Stands image (record j { gate = gate }) is_open may_open (payloads ++ payload ∷ [])) j.half place (1 ∷ [])
  opening gate next = record { torn = gate_torn; done = λ from image room r torn holds. opened gate next image (gate_torn from image r torn) (gate_written from image 1 r torn holds) }

  -- or closed
  pub closing : Step InDoubt Before j.half place (0 ∷ [])
  closing = record {
    torn = gate_torn;
    done = λ from image room r torn holds.
        let is_shut = gate_written from image 0 r torn holds in
        shut image (gate_torn from image r torn) (λ is_one. omega (arith, is_one, is_shut));
  }

module _ (j : Place) (is_open may_open : Bool) (payloads : List (List ℕ)) (bytes : List ℕ) (place : ℕ) (nine : 9 ≤ j.half) (at : place ≡ base_of j + j.gate) (frame : IsFrame bytes) (fits : length (payload_of bytes) ≤ free_of j) where
  abbrev payload : List ℕ
  payload = payload_of bytes

  abbrev Old : List ℕ → Type 0
  Old image = Stands image j is_open may_open payloads

  size : length bytes ≡ length payload + 5
  size = ap length frame.bytes_are ∙ length-framed payload

  -- while the piece is written, the closed gate stands before it
  writing_torn : (d c : List ℕ) → Old d → Torn (place + 1) (length bytes) d c → Old c
  writing_torn d c s torn = record {
    filled = filled_behind d c (base_of j) j.half j.gate payloads (place + 1) (length bytes) s.filled torn (omega (arith, at));
    heads = heads_kept d c j is_open may_open (place + 1) (length bytes) nine s.heads torn (omega (arith, at, s.filled.ends)) (omega (arith, at, fits, size, frame.not_empty));
  }

  -- once it is, it stands whole
  piece_written : (d c : List ℕ) → Old d → Torn (place + 1) (length bytes) d c → Holds d (place + 1) bytes c → IsPieceInDoubt c j is_open may_open payloads payload
  piece_written d c s torn holds =
      let r = s.filled in
      let front = blocks payloads ++ r.byte ∷ [] in
      let rest = drop (place + 1 + length bytes) d in
      let split : drop (base_of j + 9) d ≡ front ++ r.rest = r.bytes_are ∙ sym (append_assoc (blocks payloads) (r.byte ∷ []) r.rest) in
      let ends : base_of j + 9 + length front ≡ place + 1 = omega (arith, at, length-append (blocks payloads) (r.byte ∷ []), r.ends) in
      let inside : place + 1 ≤ length d = omega (arith, ends, length-drop (base_of j + 9) d, ap length split, length-append front r.rest, length-append (blocks payloads) (r.byte ∷ [])) in
      record {
        byte = r.byte;
        rest = rest;
        bytes_are = front_kept d c (place + 1) (length bytes) (base_of j + 9) front r.rest torn (omega (arith, ends)) split
            ∙ ap (λ (k : ℕ). front ++ drop k c) ends
            ∙ ap (λ (l : List ℕ). front ++ l) (written_at d c (place + 1) bytes inside holds ∙ ap (λ (l : List ℕ). l ++ rest) frame.bytes_are)
            ∙ append_assoc (blocks payloads) (r.byte ∷ []) (framed payload ++ rest);
        ends = r.ends;
        inside = omega (arith, r.inside, fits, frame.not_empty);
        heads = (writing_torn d c s torn).heads;
      }

  -- both writes of a commit
  pub piece_opens : Opens Old (λ image. IsPieceInDoubt image j is_open may_open payloads payload) (λ image. Stands image (record j { gate = j.gate + length bytes }) is_open may_open (payloads ++ payload ∷ []))
      (IsEither j.half payloads (payloads ++ payload ∷ [])) j.half place bytes
  piece_opens = record {
    writing = record { torn = writing_torn; done = λ from image room s torn holds. piece_written from image s torn holds };
    opening = opening j is_open may_open payloads payload place nine at (j.gate + length bytes) (omega (arith, size));
    before = Stands-either j is_open may_open payloads (payloads ++ payload ∷ []);
    between = piece_or_not j is_open may_open payloads payload place nine at;
  }
