-- What the pieces of a journal have as entries.
use Rattle.std.specs.Prelude.{◌≡◌, ◌+◌, ℕ, List, [], ◌∷◌, ◌++◌, map, ⊤}
use Rattle.gate_journal.specs.Half.{Place, base_of, Recovers}
use Rattle.gate_journal.specs.Pieces.{payloads_of, places_from}
use Rattle.gate_journal.specs.declared.piece.Piece.{Piece}
use Rattle.lti_machine.specs.EntryBytes.{IsEntry}
use Rattle.lti_machine.specs.declared.entry.Entry.{Entry}
use Rattle.lti_desk.specs.declared.origin.Origin.{Origin}

-- the pieces have these entries as their payloads, one each
abbrev pub AreEntries : List Piece → List Entry → Type 0
AreEntries [] [] = ⊤
AreEntries (piece ∷ pieces) (entry ∷ entries) = IsEntry piece.payload.list entry × AreEntries pieces entries
AreEntries pieces entries = ⊥

-- this holds of the entries in the pieces that were read, which are those of one list
pub record IsOver (origin : Origin) (Holds : List Entry → Type 0) : Type 0 where
  pub began : List Entry
  pub read : AreEntries origin.pieces.value.items began
  pub holds : Holds began

-- the first piece whose payload is no entry has this place
pub record IsUnread (pieces : List Piece) (at : ℕ) : Type 0 where
  pub front : List Piece
  pub piece : Piece
  pub behind : List Piece
  pub pieces_are : pieces ≡ front ++ piece ∷ behind
  pub entries : List Entry
  pub read : AreEntries front entries
  pub place : piece.at ≡ at
  pub none : (entry : Entry) → IsEntry piece.payload.list entry → ⊥

-- a half of the disk stands for pieces, and the first one whose payload is no entry has this place
pub record IsUnreadAt (image : List ℕ) (half at : ℕ) : Type 0 where
  pub place : Place
  pub half_is : place.half ≡ half
  pub pieces : List Piece
  pub recovers : Recovers image place (payloads_of pieces)
  pub places : map (λ piece. piece.at) pieces ≡ places_from (base_of place + 9) (payloads_of pieces)
  pub unread : IsUnread pieces at
