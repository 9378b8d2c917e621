-- Bytes that are held in a buffer, and bytes that are joined.
use Rattle.std.proofs.Common.{◌≡◌, ℕ, zero, suc, ◌+◌, ◌-◌, ◌<◌, ◌≤◌, ◌==◌, false, inl, inr, List, [], ◌++◌, length, get_or, take, drop, refl, sym, ap, ◌∙◌, subst, append_assoc, arith, length-take, length-drop}
use Rattle.std.proofs.lemmas.List.{drop-drop, drop-take, take_more, take-take}
use Rattle.std.proofs.lemmas.List.Elements.{All-take}
use Rattle.http_wire.specs.Taking.{HasNoLineFeed, IsRun}

-- what was held and read, one read after another
pub joins : (p r l q s x : List ℕ) → p ++ r ≡ l ++ q → q ++ s ≡ x → p ++ (r ++ s) ≡ l ++ x
joins p r l q s x first second =
    sym (append_assoc p r s) ∙ ap (λ y. y ++ s) first ∙ append_assoc l q s ∙ ap (λ y. l ++ y) second

-- where a byte is held, the bytes aren't none
pub some_held : (buf : List ℕ) (at end : ℕ) → at < end → end ≤ length buf → take (end - at) (drop at buf) ≡ [] → ⊥
some_held buf at end some within none =
    let counted = ap length none in
    omega (arith, counted, length-take (end - at) (drop at buf), length-drop at buf)

-- some bytes are given on, and the others are held
pub held_skip : (buf : List ℕ) (at end n : ℕ) → at ≤ end → n ≤ end - at → take (end - (at + n)) (drop (at + n) buf) ≡ drop n (take (end - at) (drop at buf))
held_skip buf at end n ordered within =
    let more : end - at ≡ n + (end - (at + n)) = omega arith in
    ap (λ xs. take (end - (at + n)) xs) (sym (drop-drop n at buf)) ∙ sym (drop-take n (end - (at + n)) (drop at buf)) ∙ ap (λ k. drop n (take k (drop at buf))) (sym more)

-- a front of a run is a run
pub front_is_run : (bytes : List ℕ) (n count : ℕ) → HasNoLineFeed (take (n - 1) bytes) → count ≤ n → n ≤ length bytes → IsRun (take count bytes)
front_is_run bytes n zero none within fits = inl refl
front_is_run bytes n (suc m) none within fits =
    let one : suc m ≡ m + 1 = omega arith in
    inr (
      take m bytes,
      get_or bytes m 0,
      ap (λ k. take k bytes) one ∙ take_more bytes m 0 (omega (arith, fits)),
      subst HasNoLineFeed (take-take m (n - 1) bytes (omega arith)) (All-take (λ b. (b == 10) ≡ false) m (take (n - 1) bytes) none),
    )

-- a piece of what was held and read was handed on
pub joined_run : (p r l q s piece rest after : List ℕ) → p ++ r ≡ l ++ q → q ++ s ≡ piece ++ rest → after ≡ l ++ piece → p ++ (r ++ s) ≡ after ++ rest
joined_run p r l q s piece rest after first second is =
    joins p r l q s (piece ++ rest) first second ∙ sym (append_assoc l piece rest) ∙ ap (λ x. x ++ rest) (sym is)
