-- Bytes that were given, one piece after another.
use Rattle.std.proofs.Common.{◌≡◌, ◌<◌, ◌+◌, ℕ, List, [], ◌∷◌, ◌++◌, length, get_or, take, drop, sym, ap, ◌∙◌, append_assoc, append-nil, arith, length-append}
use Rattle.std.specs.Borrow.{Bor}
use Rattle.std.proofs.lemmas.Grind.{flat_map-append}
use Rattle.std.proofs.lemmas.List.{take_more, take-append-drop}
use Rattle.lti_outside.specs.Traffic.{Traffic, Moves, no_fault, GivesFront}
use Rattle.lti_outside.proofs.TrafficLemmas.{Moves-gives}
use Rattle.http_wire.specs.Pieces.{joined}

-- a proper front of bytes is one of the bytes with more behind them
pub GivesFront-more : {a b : Traffic} (bytes more : List ℕ) → GivesFront a b bytes → GivesFront a b (bytes ++ more)
GivesFront-more bytes more gives = record {
  front = gives.front;
  proper = (
    gives.proper.0 ++ more,
    omega (arith, gives.proper.1, length-append gives.proper.0 more),
    ap (λ x. x ++ more) gives.proper.2 ∙ append_assoc gives.front gives.proper.0 more,
  );
  moves = gives.moves;
}

-- bytes were given whole, and then a proper front
pub GivesFront-then : {a b c : Traffic} (given bytes : List ℕ) → Moves a b [] given no_fault → GivesFront b c bytes → GivesFront a c (given ++ bytes)
GivesFront-then given bytes moves gives = record {
  front = given ++ gives.front;
  proper = (
    gives.proper.0,
    gives.proper.1,
    ap (λ x. given ++ x) gives.proper.2 ∙ sym (append_assoc given gives.front gives.proper.0),
  );
  moves = Moves-gives moves gives.moves;
}

-- one piece more
pub joined_at : (pieces : List (Bor (List ℕ))) (i : ℕ) (d : Bor (List ℕ)) → i < length pieces → joined (take (i + 1) pieces) ≡ joined (take i pieces) ++ (get_or pieces i d).now
joined_at pieces i d within =
    ap joined (take_more pieces i d within)
    ∙ flat_map-append (λ (p : Bor (List ℕ)). p.now) (take i pieces) (get_or pieces i d ∷ [])
    ∙ ap (λ t. joined (take i pieces) ++ t) (append-nil (get_or pieces i d).now)

-- what was given, what is held, a piece and the pieces behind it are all pieces
pub joined_whole : (pieces : List (Bor (List ℕ))) (i : ℕ) (d : Bor (List ℕ)) (given held : List ℕ) → i < length pieces → joined (take i pieces) ≡ given ++ held
    → (given ++ (held ++ (get_or pieces i d).now)) ++ joined (drop (i + 1) pieces) ≡ joined pieces
joined_whole pieces i d given held within is =
    let piece = (get_or pieces i d).now in
    ap (λ t. t ++ joined (drop (i + 1) pieces)) (sym (append_assoc given held piece) ∙ ap (λ t. t ++ piece) (sym is) ∙ sym (joined_at pieces i d within))
    ∙ sym (flat_map-append (λ (p : Bor (List ℕ)). p.now) (take (i + 1) pieces) (drop (i + 1) pieces))
    ∙ ap joined (take-append-drop (i + 1) pieces)
