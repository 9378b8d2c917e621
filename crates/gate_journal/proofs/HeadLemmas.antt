-- Which half is current, and which writes leave it so.
use Rattle.std.proofs.Common.{◌≡◌, ◌⊎◌, inl, inr, ⊎_elim, ℕ, ◌+◌, ◌*◌, ◌<◌, ◌≤◌, Bool, true, false, ltb, cond, List, refl, sym, ◌∙◌, ap, arith}
use Rattle.std.proofs.lemmas.Bool.{false≢true}
use Rattle.std.proofs.lemmas.Bool.Decides.{nat_tests}
use Rattle.lti_outside.specs.Disk.{Torn}
use Rattle.gate_journal.specs.Half.{Place, base_of, other_base, opens, generation_at, picks_second, picked, IsCurrent, IsFilled, Recovers, StandsFor, IsEither}
use Rattle.gate_journal.specs.Doubt.{IsOwn, IsHarmless, HasHeads, Stands}
use Rattle.gate_journal.proofs.ElsewhereLemmas.{head_kept, filled_behind, filled_before}

abbrev place : ℕ → Bool → ℕ → ℕ → Place
place half second generation gate = record { half = half; second = second; generation = generation; gate = gate }

-- both gates open
second_above : (m n : ℕ) → m < n → (picks_second true true m n ≡ true) × (picked true true m n ≡ n)
second_above m n lt = let t : ltb m n ≡ true = grind (arith, nat_tests) in (t, ap (λ (b : Bool). cond b n m) t)

first_above : (m n : ℕ) → n ≤ m → (picks_second true true m n ≡ false) × (picked true true m n ≡ m)
first_above m n le = let t : ltb m n ≡ false = grind (arith, nat_tests) in (t, ap (λ (b : Bool). cond b n m) t)

-- the four ways of two gates
chosen : (image : List ℕ) (j : Place) (a b : Bool) → opens image 0 ≡ a → opens image j.half ≡ b
    → j.second ≡ picks_second a b (generation_at image 0) (generation_at image j.half) → j.generation ≡ picked a b (generation_at image 0) (generation_at image j.half) → IsCurrent image j
chosen image j a b a_is b_is which generation = record { which = rw (a_is, b_is) which; generation = rw (a_is, b_is) generation }

-- a half is current whose own head says so, where the other is shut or harmless
current_by : (image : List ℕ) (half : ℕ) (second is_open other : Bool) (generation gate : ℕ) → IsOwn image (place half second generation gate) is_open → opens image (other_base (place half second generation gate)) ≡ other
    → (other ≡ true → (is_open ≡ true) × IsHarmless image (place half second generation gate)) → IsCurrent image (place half second generation gate)
current_by image half false true false generation gate own other_is harmless = chosen image (place half false generation gate) true false own.gate other_is refl (sym (own.when_open refl))
current_by image half false false false generation gate own other_is harmless = chosen image (place half false generation gate) false false own.gate other_is refl (own.when_shut refl).1
current_by image half true true false generation gate own other_is harmless = chosen image (place half true generation gate) false true other_is own.gate refl (sym (own.when_open refl))
current_by image half true false other generation gate own other_is harmless = absurd (false≢true (sym (own.when_shut refl).0))
current_by image half second false true generation gate own other_is harmless = absurd (false≢true (harmless refl).0)
current_by image half false true true generation gate own other_is harmless =
    let first = first_above (generation_at image 0) (generation_at image half) (omega (arith, own.when_open refl, (harmless refl).1.below)) in
    chosen image (place half false generation gate) true true own.gate other_is (sym first.0) (sym (own.when_open refl) ∙ sym first.1)
current_by image half true true true generation gate own other_is harmless =
    let above = second_above (generation_at image 0) (generation_at image half) (omega (arith, own.when_open refl, (harmless refl).1.strictly refl)) in
    chosen image (place half true generation gate) true true other_is own.gate (sym above.0) (sym (own.when_open refl) ∙ sym above.1)

heads_harmless : (image : List ℕ) (j : Place) (is_open may_open : Bool) → HasHeads image j is_open may_open → opens image (other_base j) ≡ true → (is_open ≡ true) × IsHarmless image j
heads_harmless image j is_open false heads is = absurd (false≢true (sym (heads.other_shut refl) ∙ is))
heads_harmless image j is_open true heads is = heads.other_harmless refl

pub heads_current : (image : List ℕ) (j : Place) (is_open may_open : Bool) → HasHeads image j is_open may_open → IsCurrent image j
heads_current image j is_open may_open heads =
    current_by image j.half j.second is_open (opens image (other_base j)) j.generation j.gate heads.own refl (heads_harmless image j is_open may_open heads)

-- the heads where the gate of the other half is known to be closed
pub heads_shut : (image : List ℕ) (j : Place) (is_open may_open : Bool) → may_open ≡ false → IsOwn image j is_open → opens image (other_base j) ≡ false → HasHeads image j is_open may_open
heads_shut image j is_open may_open shut own other =
    record { own = own; other_shut = λ is. other; other_harmless = λ is. absurd (false≢true (sym shut ∙ is)) }

-- what a journal knows of an image says what the image stands for
pub Stands-recovers : (image : List ℕ) (j : Place) (is_open may_open : Bool) (payloads : List (List ℕ)) → Stands image j is_open may_open payloads → Recovers image j payloads
Stands-recovers image j is_open may_open payloads s = record { current = heads_current image j is_open may_open s.heads; filled = s.filled }

pub Stands-for : (image : List ℕ) (j : Place) (is_open may_open : Bool) (payloads : List (List ℕ)) → Stands image j is_open may_open payloads → StandsFor image j.half payloads
Stands-for image j is_open may_open payloads s = (j, refl, Stands-recovers image j is_open may_open payloads s)

pub Stands-either : (j : Place) (is_open may_open : Bool) (payloads others : List (List ℕ)) (image : List ℕ) → Stands image j is_open may_open payloads → IsEither j.half payloads others image
Stands-either j is_open may_open payloads others image s = inl (Stands-for image j is_open may_open payloads s)

-- neither half reaches into the other
apart : (half : ℕ) (second : Bool) → (cond second half 0 + half ≤ cond second 0 half) ⊎ (cond second 0 half + half ≤ cond second half 0)
apart half true = inr (omega arith)
apart half false = inl (omega arith)

halves_apart : (j : Place) → (base_of j + j.half ≤ other_base j) ⊎ (other_base j + j.half ≤ base_of j)
halves_apart j = apart j.half j.second

-- a write among the pieces of the current half leaves both heads
pub heads_kept : (d c : List ℕ) (j : Place) (is_open may_open : Bool) (at n : ℕ) → 9 ≤ j.half → HasHeads d j is_open may_open → Torn at n d c → base_of j + 9 ≤ at → at + n ≤ base_of j + j.half → HasHeads c j is_open may_open
heads_kept d c j is_open may_open at n nine heads torn low high =
    let own = head_kept d c at n (base_of j) torn (inl low) in
    let other = head_kept d c at n (other_base j) torn (⊎_elim (λ before. inr (omega (arith, before, high))) (λ behind. inl (omega (arith, behind, low, nine))) (halves_apart j)) in
    let same = other.1 in
    record {
      own = record { gate = own.0 ∙ heads.own.gate; when_open = λ is. own.1 ∙ heads.own.when_open is; when_shut = heads.own.when_shut };
      other_shut = λ is. other.0 ∙ heads.other_shut is;
      other_harmless = λ is.
          let harmless = heads.other_harmless is in
          (harmless.0, record { below = omega (arith, same, harmless.1.below); strictly = λ second. omega (arith, same, harmless.1.strictly second) });
    }

-- a write in the other half leaves the current one
pub own_kept : (d c : List ℕ) (j : Place) (is_open : Bool) (at n : ℕ) → 9 ≤ j.half → IsOwn d j is_open → Torn at n d c → other_base j ≤ at → at + n ≤ other_base j + j.half → IsOwn c j is_open
own_kept d c j is_open at n nine own torn low high =
    let kept = head_kept d c at n (base_of j) torn (⊎_elim (λ before. inl (omega (arith, before, low, nine))) (λ behind. inr (omega (arith, behind, high))) (halves_apart j)) in
    record { gate = kept.0 ∙ own.gate; when_open = λ is. kept.1 ∙ own.when_open is; when_shut = own.when_shut }

pub filled_kept : (d c : List ℕ) (j : Place) (payloads : List (List ℕ)) (at n : ℕ) → IsFilled d (base_of j) j.half j.gate payloads → Torn at n d c → other_base j ≤ at → at + n ≤ other_base j + j.half
    → IsFilled c (base_of j) j.half j.gate payloads
filled_kept d c j payloads at n filled torn low high = ⊎_elim
    (λ before. filled_behind d c (base_of j) j.half j.gate payloads at n filled torn (omega (arith, before, filled.inside, low)))
    (λ behind. filled_before d c (base_of j) j.half j.gate payloads at n filled torn (omega (arith, behind, high))) (halves_apart j)

-- the other half lies within the disk
within : (half size : ℕ) (second : Bool) → 2 * half ≤ size → cond second 0 half + half ≤ size
within half size true room = omega (arith, room)
within half size false room = omega (arith, room)

pub other_within : (j : Place) (size : ℕ) → 2 * j.half ≤ size → other_base j + j.half ≤ size
other_within j size room = within j.half size j.second room

-- the heads as a mounting reads them
both_open : (image : List ℕ) (half gate m n : ℕ) (t : Bool) → ltb m n ≡ t → opens image 0 ≡ true → opens image half ≡ true → generation_at image 0 ≡ m → generation_at image half ≡ n
    → HasHeads image (place half t (cond t n m) gate) (cond t true true) (cond t true true)
both_open image half gate m n true test a b m_is n_is = record {
  own = record { gate = b; when_open = λ is. n_is; when_shut = λ is. absurd (false≢true (sym is)) };
  other_shut = λ is. absurd (false≢true (sym is));
  other_harmless = λ is.
      let lt : m < n = grind (arith, nat_tests) in
      (refl, record { below = omega (arith, lt, m_is); strictly = λ other. omega (arith, lt, m_is) });
}
both_open image half gate m n false test a b m_is n_is = record {
  own = record { gate = a; when_open = λ is. m_is; when_shut = λ is. absurd (false≢true (sym is)) };
  other_shut = λ is. absurd (false≢true (sym is));
  other_harmless = λ is.
      let le : n ≤ m = grind (arith, nat_tests) in
      (refl, record { below = omega (arith, le, n_is); strictly = λ other. absurd (false≢true other) });
}

pub heads_read : (image : List ℕ) (half gate m n : ℕ) (a b : Bool) → opens image 0 ≡ a → opens image half ≡ b → generation_at image 0 ≡ m → generation_at image half ≡ n
    → HasHeads image (place half (picks_second a b m n) (picked a b m n) gate) (cond (picks_second a b m n) b a) (cond (picks_second a b m n) a b)
heads_read image half gate m n true true a_is b_is m_is n_is = both_open image half gate m n (ltb m n) refl a_is b_is m_is n_is
heads_read image half gate m n true false a_is b_is m_is n_is =
    heads_shut image (place half false m gate) true false refl (record { gate = a_is; when_open = λ is. m_is; when_shut = λ is. absurd (false≢true (sym is)) }) b_is
heads_read image half gate m n false true a_is b_is m_is n_is =
    heads_shut image (place half true n gate) true false refl (record { gate = b_is; when_open = λ is. n_is; when_shut = λ is. absurd (false≢true (sym is)) }) a_is
heads_read image half gate m n false false a_is b_is m_is n_is =
    heads_shut image (place half false 0 gate) false false refl (record { gate = a_is; when_open = λ is. absurd (false≢true is); when_shut = λ is. (refl, refl) }) b_is
