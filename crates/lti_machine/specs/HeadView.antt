-- What the bytes of an entry begin with.
use Rattle.std.specs.Prelude.{◌≡◌, ◌↔◌, ℕ, ◌^◌, ◌<◌, ◌≤◌, List, [], ◌∷◌, ◌++◌, length}
use Rattle.std.specs.Int.{w64, to_be_bytes}
use Rattle.lti_machine.specs.Sound.{greatest_moment}
use Rattle.lti_machine.specs.EntryBytes.{text_bytes, effect_byte, effect_parts, AreParts, IsText}
use Rattle.lti_machine.specs.declared.entry.Effect.{Effect}
use Rattle.lti_machine.specs.declared.entry_reading.Head.{Head}

-- what stands before the parts of the effect
pub record HeadValue : Type 0 where
  pub effect : ℕ
  pub moment : ℕ
  pub timestamp : ℕ
  pub key : List ℕ
  pub nonce : List ℕ

abbrev pub head_of : Head → HeadValue
head_of h = record { effect = h.effect; moment = h.moment; timestamp = h.timestamp; key = h.key.now; nonce = h.nonce.now }

-- the bytes of a head, and what is behind them
abbrev pub head_bytes : HeadValue → List ℕ → List ℕ
head_bytes h rest = 1 ∷ h.effect ∷ (to_be_bytes w64 h.moment ++ (to_be_bytes w64 h.timestamp ++ (text_bytes h.key ++ (text_bytes h.nonce ++ rest))))

-- the bytes begin with the head
pub record BeginsWith (bytes : List ℕ) (h : HeadValue) (rest : List ℕ) : Type 0 where
  pub bytes_are : bytes ≡ head_bytes h rest
  pub moment : h.moment < 2 ^ 64
  pub timestamp : h.timestamp < 2 ^ 64
  pub key : IsText h.key
  pub nonce : IsText h.nonce

-- each part of the head is in its range
pub record IsHeadInRange (h : HeadValue) : Type 0 where
  pub moment : h.moment ≤ greatest_moment
  pub timestamp : h.timestamp ≤ greatest_moment
  pub key : length h.key ≤ 255
  pub nonce : length h.nonce ≤ 255
  pub stamped : (h.nonce ≡ []) ↔ (h.timestamp ≡ 0)

-- the bytes are the parts of the effect that the number stands for
pub record IsEffect (number : ℕ) (bytes : List ℕ) (e : Effect) : Type 0 where
  pub number_is : number ≡ effect_byte e
  pub bytes_are : bytes ≡ effect_parts e
  pub parts : AreParts e
