-- The bytes in which an entry is kept (this project's own). Numbers are big-endian. The first form of an entry is the byte 1,
-- a byte for its effect, the moment and the timestamp of 8 bytes each, the key and the nonce as texts, and the effect's parts.
use Rattle.std.specs.Prelude.{◌≡◌, ◌↔◌, ℕ, ◌^◌, ◌<◌, ◌≤◌, min, List, [], ◌∷◌, ◌++◌, length, All, IsUtf8, ⊤}
use Rattle.std.specs.Int.{w32, w64, w128, to_be_bytes}
use Rattle.lti_machine.specs.Rules.{entry_of, now_of}
use Rattle.lti_machine.specs.Sound.{greatest_moment, IsSound}
use Rattle.lti_machine.specs.declared.call.Call.{Call}
use Rattle.lti_machine.specs.declared.entry.Effect.{Effect}
use Rattle.lti_machine.specs.declared.entry.Effect.TheVariants.{Nothing, Launch, Grade, Cleared, Issued}
use Rattle.lti_machine.specs.declared.entry.Entry.{Entry}
use Rattle.lti_machine.specs.declared.reply.Reply.{Reply}

-- a text: how many bytes it has, in 4 bytes, and the bytes
abbrev pub text_bytes : List ℕ → List ℕ
text_bytes text = to_be_bytes w32 (length text) ++ text

-- the byte that stands for an effect
abbrev pub effect_byte : Effect → ℕ
effect_byte Nothing = 0
effect_byte (Launch link user sourced_id service) = 1
effect_byte (Grade id score) = 3
effect_byte (Cleared id) = 4
effect_byte (Issued id) = 5

-- the parts of an effect; a score is its number of 10^-30 in 16 bytes
abbrev pub effect_parts : Effect → List ℕ
effect_parts Nothing = []
effect_parts (Launch link user sourced_id service) = text_bytes link ++ (text_bytes user ++ (text_bytes sourced_id ++ text_bytes service))
effect_parts (Grade id score) = text_bytes id ++ to_be_bytes w128 score
effect_parts (Cleared id) = text_bytes id
effect_parts (Issued id) = text_bytes id

abbrev pub entry_text : Entry → List ℕ
entry_text e =
    1 ∷ effect_byte e.effect ∷ (to_be_bytes w64 e.moment ++ (to_be_bytes w64 e.timestamp ++ (text_bytes e.key ++ (text_bytes e.nonce ++ effect_parts e.effect))))

-- how many bytes they are, or the greatest number of 64 bits where that is less
abbrev pub length_of : Entry → ℕ
length_of e = min (length (entry_text e)) 18446744073709551615

-- UTF-8 of fewer than 2^32 bytes
pub record IsText (text : List ℕ) : Type 0 where
  pub utf8 : IsUtf8 text
  pub short : length text < 2 ^ 32

abbrev pub AreParts : Effect → Type 0
AreParts Nothing = ⊤
AreParts (Launch link user sourced_id service) = IsText link × IsText user × IsText sourced_id × IsText service
AreParts (Grade id score) = IsText id × (score ≤ 10 ^ 30)
AreParts (Cleared id) = IsText id
AreParts (Issued id) = IsText id

-- Moments have at most fifteen digits, key and nonce at most 255 bytes, and the entry has a nonce exactly where it has a
-- timestamp.
pub record IsBounded (e : Entry) : Type 0 where
  pub moment : e.moment ≤ greatest_moment
  pub timestamp : e.timestamp ≤ greatest_moment
  pub key : length e.key ≤ 255
  pub nonce : length e.nonce ≤ 255
  pub stamped : (e.nonce ≡ []) ↔ (e.timestamp ≡ 0)

-- each part of the entry is in its range
pub record IsInRange (e : Entry) : Type 0 where
  pub bounded : IsBounded e
  pub key : IsUtf8 e.key
  pub nonce : IsUtf8 e.nonce
  pub parts : AreParts e.effect

-- the bytes are those of the entry
pub record IsEntry (bytes : List ℕ) (e : Entry) : Type 0 where
  pub bytes_are : bytes ≡ entry_text e
  pub in_range : IsInRange e

-- bytes are those of one entry at most
abbrev pub HasOneReading : Type 0
HasOneReading = (bytes : List ℕ) (a b : Entry) → IsEntry bytes a → IsEntry bytes b → a ≡ b

-- The entry of a call that the machine takes is in its bounds, where those before it are.
abbrev pub AcceptedIsBounded : Type 0
AcceptedIsBounded =
    (entries : List Entry) (call : Call) (given : Reply) → All IsBounded entries → IsSound call → IsBounded (entry_of call given (now_of entries call))
