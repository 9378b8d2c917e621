-- What holds of all lists of entries.
use Rattle.std.specs.Prelude.{◌≡◌, ◌≤◌, ℕ, List, [], ◌∷◌, ◌++◌, map, filter, All, bytes_eq}
use Rattle.lti_machine.specs.declared.entry.Entry.{Entry}
use Rattle.lti_machine.specs.declared.call.Call.{Call}
use Rattle.lti_machine.specs.declared.reply.Reply.{Reply}
use Rattle.lti_machine.specs.Rules.{high, decide, after}
use Rattle.lti_machine.specs.EntryBytes.{IsInRange}
use Rattle.lti_machine.specs.Nonces.{live}
use Rattle.lti_machine.specs.Used.{Used, used}
use Rattle.lti_machine.specs.Summary.{summary}
use Rattle.lti_machine.specs.Digest.{digest}

-- the digest at the moment of an entry serves in place of the list that the entry comes behind
abbrev pub DigestServesAtMoment : Type 0
DigestServesAtMoment =
    (entries : List Entry) (entry : Entry) → high entries ≤ entry.moment
    → summary (digest entries entry.moment ++ entry ∷ []) ≡ summary (entries ++ entry ∷ [])

-- the digest at the greatest moment has the summary of the list
abbrev pub DigestServes : Type 0
DigestServes = (entries : List Entry) → summary (digest entries (high entries)) ≡ summary entries

-- equal summaries give equal replies
abbrev pub SummaryDecides : Type 0
SummaryDecides = (a b : List Entry) (call : Call) (limit : ℕ) → summary a ≡ summary b → decide a call limit ≡ decide b call limit

-- equal summaries stay equal with the same entry behind them
abbrev pub SummaryGoesOn : Type 0
SummaryGoesOn = (a b : List Entry) (entry : Entry) → summary a ≡ summary b → summary (a ++ entry ∷ []) ≡ summary (b ++ entry ∷ [])

-- and after the same call with the same reply
abbrev pub SummaryGoesOnAfter : Type 0
SummaryGoesOnAfter = (a b : List Entry) (call : Call) (given : Reply) → summary a ≡ summary b → summary (after a call given) ≡ summary (after b call given)

-- the live nonces of a key are those of all keys that are its own, in the same order
abbrev pub LiveIsPart : Type 0
LiveIsPart =
    (entries : List Entry) (key : List ℕ) (now : ℕ)
    → live entries key now ≡ map (λ u. u.stamp) (filter (λ (u : Used). bytes_eq u.key key) (used entries now))

-- the digest of entries that can be kept and read again can be, too
abbrev pub DigestIsInRange : Type 0
DigestIsInRange = (entries : List Entry) (now : ℕ) → All IsInRange entries → All IsInRange (digest entries now)
