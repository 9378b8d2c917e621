use Rattle.std.proofs.Common.{◌≡◌, ◌<◌, ℕ, zero, suc, ◌++◌, List, [], ◌∷◌, map, take, drop, set, get_or, length, bit_xor, refl, ap, arith, add-one}
use Rattle.oauth_sign.proofs.mac.exclusive_or.Goals as goal

-- one step of a loop that writes f of each element in its place
mapped_step : (f : ℕ → ℕ) (xs : List ℕ) (i : ℕ) → i < length xs → set (map f (take i xs) ++ drop i xs) i (f (get_or (map f (take i xs) ++ drop i xs) i 0)) ≡ map f (take (suc i) xs) ++ drop (suc i) xs
mapped_step f [] i within = absurd (omega (arith, within))
mapped_step f (x ∷ xs) zero within = refl
mapped_step f (x ∷ xs) (suc i) within = ap (λ ys. f x ∷ ys) (mapped_step f xs i (omega (arith, within)))

pub loop-byte-preserved : goal.loop-byte-preserved
loop-byte-preserved c =
    rw (add-one, c.loop-byte.invariant)
    (mapped_step (bit_xor c.args.bits) c.args.bytes.now c.loop-byte.byte-index c.loop-byte-test.true)
