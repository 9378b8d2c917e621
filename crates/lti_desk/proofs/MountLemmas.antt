-- The entries that a mounting has read so far.
use Rattle.std.proofs.Common.{◌≡◌, ◌<◌, ◌-◌, ◌^◌, ℕ, suc, List, [], ◌∷◌, ◌++◌, length, drop, All, refl, sym, ap, ◌∙◌, subst, arith}
use Rattle.std.proofs.lemmas.List.Elements.{All-nil, All-cons, All-head, All-tail}
use Rattle.lti_machine.specs.EntryBytes.{entry_text, IsEntry, IsInRange}
use Rattle.lti_machine.specs.declared.entry.Entry.{Entry}
use Rattle.lti_machine.proofs.FrontLemmas.{entry_once}
use Rattle.lti_machine.proofs.LiveLemmas.{length-live-le}
use Rattle.gate_journal.specs.Pieces.{payloads_of}
use Rattle.gate_journal.specs.declared.piece.Piece.{Piece}
use Rattle.nonce_window.specs.Words.{HasRoom}
use Rattle.lti_desk.specs.Ledger.{Holds}
use Rattle.lti_desk.specs.Reading.{AreEntries, IsOver}
use Rattle.lti_desk.specs.Keeper.{payloads}
use Rattle.lti_desk.specs.declared.ledger.Ledger.{Ledger}
use Rattle.lti_desk.specs.declared.origin.Origin.{Origin}

abbrev head_or : List (List ℕ) → List ℕ → List ℕ
head_or [] other = other
head_or (x ∷ xs) other = x

pub length-entries : (pieces : List Piece) (entries : List Entry) → AreEntries pieces entries → length entries ≡ length pieces
length-entries [] [] are = refl
length-entries [] (e ∷ es) are = absurd are
length-entries (p ∷ ps) [] are = absurd are
length-entries (p ∷ ps) (e ∷ es) are = ap suc (length-entries ps es are.1)

pub entries-push : (pieces : List Piece) (entries : List Entry) (piece : Piece) (entry : Entry) → AreEntries pieces entries → IsEntry piece.payload.list entry
    → AreEntries (pieces ++ piece ∷ []) (entries ++ entry ∷ [])
entries-push [] [] piece entry are is = (is, tt)
entries-push [] (e ∷ es) piece entry are is = absurd are
entries-push (p ∷ ps) [] piece entry are is = absurd are
entries-push (p ∷ ps) (e ∷ es) piece entry are is = (are.0, entries-push ps es piece entry are.1 is)

-- a key of a short list has room for one nonce more
pub has_room : (ledger : Ledger) (entries : List Entry) → Holds ledger entries → length entries < 2 ^ 32 - 1 → (key : List ℕ) → HasRoom ledger.window key
has_room ledger entries holds few key = λ others held.
    omega (arith, few, length-live-le entries key ledger.window.high, ap length (sym (held key) ∙ holds.window key))

-- the entries of pieces are in their ranges, and their bytes are the pieces' payloads
pub entries-in_range : (pieces : List Piece) (entries : List Entry) → AreEntries pieces entries → All IsInRange entries
entries-in_range [] [] are = All-nil IsInRange
entries-in_range [] (e ∷ es) are = absurd are
entries-in_range (p ∷ ps) [] are = absurd are
entries-in_range (p ∷ ps) (e ∷ es) are = All-cons IsInRange e es are.0.in_range (entries-in_range ps es are.1)

pub entries-payloads : (pieces : List Piece) (entries : List Entry) → AreEntries pieces entries → payloads_of pieces ≡ payloads entries
entries-payloads [] [] are = refl
entries-payloads [] (e ∷ es) are = absurd are
entries-payloads (p ∷ ps) [] are = absurd are
entries-payloads (p ∷ ps) (e ∷ es) are = λ i. are.0.bytes_are i ∷ entries-payloads ps es are.1 i

-- payloads that entries are kept in are read as these entries
pub payloads-read : (pieces : List Piece) (entries : List Entry) → All IsInRange entries → payloads_of pieces ≡ payloads entries → AreEntries pieces entries
payloads-read [] [] all same = tt
payloads-read [] (e ∷ es) all same = absurd (omega (arith, ap length same))
payloads-read (p ∷ ps) [] all same = absurd (omega (arith, ap length same))
payloads-read (p ∷ ps) (e ∷ es) all same = (
  record { bytes_are = ap (λ (l : List (List ℕ)). head_or l []) same; in_range = All-head IsInRange e es all },
  payloads-read ps es (All-tail IsInRange e es all) (ap (λ (l : List (List ℕ)). drop 1 l) same),
)

-- and they are those of one list
pub one_list : (a b : List Entry) → All IsInRange a → All IsInRange b → payloads a ≡ payloads b → a ≡ b
one_list [] [] all all' same = refl
one_list [] (e ∷ es) all all' same = absurd (omega (arith, ap length same))
one_list (d ∷ ds) [] all all' same = absurd (omega (arith, ap length same))
one_list (d ∷ ds) (e ∷ es) all all' same =
    let first = ap (λ (l : List (List ℕ)). head_or l []) same in
    let entry = entry_once (entry_text d) d e (record { bytes_are = refl; in_range = All-head IsInRange d ds all }) (record { bytes_are = first; in_range = All-head IsInRange e es all' }) in
    let rest = one_list ds es (All-tail IsInRange d ds all) (All-tail IsInRange e es all') (ap (λ (l : List (List ℕ)). drop 1 l) same) in
    λ i. entry i ∷ rest i

-- pieces have the entries of one list
pub one_reading : (pieces : List Piece) (a b : List Entry) → AreEntries pieces a → AreEntries pieces b → a ≡ b
one_reading pieces a b are also =
    one_list a b (entries-in_range pieces a are) (entries-in_range pieces b also) (sym (entries-payloads pieces a are) ∙ entries-payloads pieces b also)

-- what holds over the entries that were read holds of each list of them
pub of_each : (origin : Origin) (Holds : List Entry → Type 0) → IsOver origin Holds → (began : List Entry) → AreEntries origin.pieces.value.items began → Holds began
of_each origin Holds over began are = subst Holds (one_reading origin.pieces.value.items over.began began over.read are) over.holds
