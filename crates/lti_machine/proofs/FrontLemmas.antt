-- What bytes begin with is spelled once.
use Rattle.std.proofs.Common.{◌≡◌, ℕ, ◌^◌, ◌<◌, List, ◌++◌, length, drop, refl, sym, ap, ◌∙◌, subst, arith, append_assoc}
use Rattle.std.specs.Int.{w32, w64, w128, to_be_bytes}
use Rattle.lti_machine.specs.declared.entry.Effect.{Effect}
use Rattle.lti_machine.specs.declared.entry.Effect.TheVariants.{Nothing, Launch, Grade, Cleared, Issued}
use Rattle.lti_machine.specs.declared.entry.Entry.{Entry}
use Rattle.lti_machine.specs.EntryBytes.{text_bytes, effect_byte, effect_parts, IsText, AreParts, IsEntry}
use Rattle.lti_machine.specs.HeadView.{HeadValue, head_bytes, BeginsWith, IsHeadInRange, IsEffect}
use Rattle.lti_machine.proofs.NumberLemmas.{same_front, length_once, number_once, great_number_once}

-- a text at the front
pub text_once : (a b x y : List ℕ) → IsText a → IsText b → text_bytes a ++ x ≡ text_bytes b ++ y → (a ≡ b) × (x ≡ y)
text_once a b x y is is' same =
    let apart = same_front (to_be_bytes w32 (length a)) (to_be_bytes w32 (length b)) (a ++ x) (b ++ y) refl
    (sym (append_assoc (to_be_bytes w32 (length a)) a x) ∙ same ∙ append_assoc (to_be_bytes w32 (length b)) b y) in
    same_front a b x y (length_once (length a) (length b) is.short is'.short apart.0) apart.1

-- a text alone
pub text_alone : (a b : List ℕ) → IsText a → IsText b → text_bytes a ≡ text_bytes b → a ≡ b
text_alone a b is is' same =
    let apart = same_front (to_be_bytes w32 (length a)) (to_be_bytes w32 (length b)) a b refl same in apart.1

-- a number at the front
pub number_front : (a b : ℕ) (x y : List ℕ) → a < 2 ^ 64 → b < 2 ^ 64 → to_be_bytes w64 a ++ x ≡ to_be_bytes w64 b ++ y → (a ≡ b) × (x ≡ y)
number_front a b x y small small' same =
    let apart = same_front (to_be_bytes w64 a) (to_be_bytes w64 b) x y refl same in
    (number_once a b small small' apart.0, apart.1)

-- two heads of the same bytes are one, and so is what is behind them
pub head_once : (bytes : List ℕ) (h k : HeadValue) (x y : List ℕ) → BeginsWith bytes h x → BeginsWith bytes k y → (h ≡ k) × (x ≡ y)
head_once bytes h k x y is is' =
    let same : head_bytes h x ≡ head_bytes k y = sym is.bytes_are ∙ is'.bytes_are in
    let effects : h.effect ≡ k.effect = cc in
    let at_moment = number_front h.moment k.moment
    (to_be_bytes w64 h.timestamp ++ (text_bytes h.key ++ (text_bytes h.nonce ++ x)))
    (to_be_bytes w64 k.timestamp ++ (text_bytes k.key ++ (text_bytes k.nonce ++ y))) is.moment is'.moment (ap (λ (l : List ℕ). drop 2 l) same) in
    let at_timestamp = number_front h.timestamp k.timestamp (text_bytes h.key ++ (text_bytes h.nonce ++ x)) (text_bytes k.key ++ (text_bytes k.nonce ++ y)) is.timestamp is'.timestamp at_moment.1 in
    let at_key = text_once h.key k.key (text_bytes h.nonce ++ x) (text_bytes k.nonce ++ y) is.key is'.key at_timestamp.1 in
    let at_nonce = text_once h.nonce k.nonce x y is.nonce is'.nonce at_key.1 in
    (λ i. record { effect = effects i; moment = at_moment.0 i; timestamp = at_timestamp.0 i; key = at_key.0 i; nonce = at_nonce.0 i }, at_nonce.1)

-- what an entry begins with
abbrev pub head_of_entry : Entry → HeadValue
head_of_entry e = record { effect = effect_byte e.effect; moment = e.moment; timestamp = e.timestamp; key = e.key; nonce = e.nonce }

entry_begins : (bytes : List ℕ) (e : Entry) → IsEntry bytes e → BeginsWith bytes (head_of_entry e) (effect_parts e.effect)
entry_begins bytes e is = record {
  bytes_are = is.bytes_are;
  moment = omega (arith, is.in_range.bounded.moment);
  timestamp = omega (arith, is.in_range.bounded.timestamp);
  key = record { utf8 = is.in_range.key; short = omega (arith, is.in_range.bounded.key) };
  nonce = record { utf8 = is.in_range.nonce; short = omega (arith, is.in_range.bounded.nonce) };
}

-- bytes that begin with no head are those of no entry
pub no_head : (bytes : List ℕ) → ((h : HeadValue) (rest : List ℕ) → BeginsWith bytes h rest → ⊥) → (e : Entry) → IsEntry bytes e → ⊥
no_head bytes none e is = none (head_of_entry e) (effect_parts e.effect) (entry_begins bytes e is)

-- the head of an entry's bytes is in its range
pub head_in_range : (bytes : List ℕ) (h : HeadValue) (rest : List ℕ) (e : Entry) → BeginsWith bytes h rest → IsEntry bytes e → IsHeadInRange h
head_in_range bytes h rest e begins is =
    let same = head_once bytes h (head_of_entry e) rest (effect_parts e.effect) begins (entry_begins bytes e is) in
    subst IsHeadInRange (sym same.0) (record {
      moment = is.in_range.bounded.moment;
      timestamp = is.in_range.bounded.timestamp;
      key = is.in_range.bounded.key;
      nonce = is.in_range.bounded.nonce;
      stamped = is.in_range.bounded.stamped;
    })

-- what is behind it are the parts of the entry's effect
pub effect_behind : (bytes : List ℕ) (h : HeadValue) (rest : List ℕ) (e : Entry) → BeginsWith bytes h rest → IsEntry bytes e → IsEffect h.effect rest e.effect
effect_behind bytes h rest e begins is =
    let same = head_once bytes h (head_of_entry e) rest (effect_parts e.effect) begins (entry_begins bytes e is) in
    record { number_is = ap (λ (k : HeadValue). k.effect) same.0; bytes_are = same.1; parts = is.in_range.parts }

-- bytes are the parts of one effect
launch_once : (l u s v l' u' s' v' : List ℕ) → AreParts (Launch l u s v) → AreParts (Launch l' u' s' v') → effect_parts (Launch l u s v) ≡ effect_parts (Launch l' u' s' v')
    → Launch l u s v ≡ Launch l' u' s' v'
launch_once l u s v l' u' s' v' is is' same =
    let first = text_once l l' (text_bytes u ++ (text_bytes s ++ text_bytes v)) (text_bytes u' ++ (text_bytes s' ++ text_bytes v')) is.0 is'.0 same in
    let second = text_once u u' (text_bytes s ++ text_bytes v) (text_bytes s' ++ text_bytes v') is.1 is'.1 first.1 in
    let third = text_once s s' (text_bytes v) (text_bytes v') is.2 is'.2 second.1 in
    let fourth = text_alone v v' is.3 is'.3 third.1 in
    λ i. Launch (first.0 i) (second.0 i) (third.0 i) (fourth i)

grade_once : (a b : List ℕ) (m n : ℕ) → AreParts (Grade a m) → AreParts (Grade b n) → effect_parts (Grade a m) ≡ effect_parts (Grade b n) → Grade a m ≡ Grade b n
grade_once a b m n is is' same =
    let first = text_once a b (to_be_bytes w128 m) (to_be_bytes w128 n) is.0 is'.0 same in
    let second = great_number_once m n (omega (arith, is.1)) (omega (arith, is'.1)) first.1 in
    λ i. Grade (first.0 i) (second i)

effect_once : (number : ℕ) (bytes : List ℕ) (a b : Effect) → IsEffect number bytes a → IsEffect number bytes b → a ≡ b
effect_once number bytes Nothing Nothing is is' = refl
effect_once number bytes Nothing (Launch bl bu bt bv) is is' = absurd (omega (arith, is.number_is, is'.number_is))
effect_once number bytes Nothing (Grade bi bn) is is' = absurd (omega (arith, is.number_is, is'.number_is))
effect_once number bytes Nothing (Cleared bi) is is' = absurd (omega (arith, is.number_is, is'.number_is))
effect_once number bytes Nothing (Issued bi) is is' = absurd (omega (arith, is.number_is, is'.number_is))
effect_once number bytes (Launch al au at av) Nothing is is' = absurd (omega (arith, is.number_is, is'.number_is))
effect_once number bytes (Launch al au at av) (Launch bl bu bt bv) is is' = launch_once al au at av bl bu bt bv is.parts is'.parts (sym is.bytes_are ∙ is'.bytes_are)
effect_once number bytes (Launch al au at av) (Grade bi bn) is is' = absurd (omega (arith, is.number_is, is'.number_is))
effect_once number bytes (Launch al au at av) (Cleared bi) is is' = absurd (omega (arith, is.number_is, is'.number_is))
effect_once number bytes (Launch al au at av) (Issued bi) is is' = absurd (omega (arith, is.number_is, is'.number_is))
effect_once number bytes (Grade ai an) Nothing is is' = absurd (omega (arith, is.number_is, is'.number_is))
effect_once number bytes (Grade ai an) (Launch bl bu bt bv) is is' = absurd (omega (arith, is.number_is, is'.number_is))
effect_once number bytes (Grade ai an) (Grade bi bn) is is' = grade_once ai bi an bn is.parts is'.parts (sym is.bytes_are ∙ is'.bytes_are)
effect_once number bytes (Grade ai an) (Cleared bi) is is' = absurd (omega (arith, is.number_is, is'.number_is))
effect_once number bytes (Grade ai an) (Issued bi) is is' = absurd (omega (arith, is.number_is, is'.number_is))
effect_once number bytes (Cleared ai) Nothing is is' = absurd (omega (arith, is.number_is, is'.number_is))
effect_once number bytes (Cleared ai) (Launch bl bu bt bv) is is' = absurd (omega (arith, is.number_is, is'.number_is))
effect_once number bytes (Cleared ai) (Grade bi bn) is is' = absurd (omega (arith, is.number_is, is'.number_is))
effect_once number bytes (Cleared ai) (Cleared bi) is is' = ap Cleared (text_alone ai bi is.parts is'.parts (sym is.bytes_are ∙ is'.bytes_are))
effect_once number bytes (Cleared ai) (Issued bi) is is' = absurd (omega (arith, is.number_is, is'.number_is))
effect_once number bytes (Issued ai) Nothing is is' = absurd (omega (arith, is.number_is, is'.number_is))
effect_once number bytes (Issued ai) (Launch bl bu bt bv) is is' = absurd (omega (arith, is.number_is, is'.number_is))
effect_once number bytes (Issued ai) (Grade bi bn) is is' = absurd (omega (arith, is.number_is, is'.number_is))
effect_once number bytes (Issued ai) (Cleared bi) is is' = absurd (omega (arith, is.number_is, is'.number_is))
effect_once number bytes (Issued ai) (Issued bi) is is' = ap Issued (text_alone ai bi is.parts is'.parts (sym is.bytes_are ∙ is'.bytes_are))

-- bytes are those of one entry
pub entry_once : (bytes : List ℕ) (a b : Entry) → IsEntry bytes a → IsEntry bytes b → a ≡ b
entry_once bytes a b is is' =
    let same = head_once bytes (head_of_entry a) (head_of_entry b) (effect_parts a.effect) (effect_parts b.effect) (entry_begins bytes a is) (entry_begins bytes b is') in
    let effects = effect_once (effect_byte a.effect) (effect_parts a.effect) a.effect b.effect
    (record { number_is = refl; bytes_are = refl; parts = is.in_range.parts })
    (record { number_is = ap (λ (h : HeadValue). h.effect) same.0; bytes_are = same.1; parts = is'.in_range.parts }) in
    λ i. record { moment = (same.0 i).moment; key = (same.0 i).key; timestamp = (same.0 i).timestamp; nonce = (same.0 i).nonce; effect = effects i }
