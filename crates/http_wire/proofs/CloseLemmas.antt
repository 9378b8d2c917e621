-- The item `close` among the items of a value, one item after another.
use Rattle.std.proofs.Common.{◌≡◌, ℕ, ◌+◌, ◌-◌, ◌<◌, ◌||◌, ◌==◌, Bool, true, false, All, List, ◌∷◌, ◌++◌, length, get_or, take, drop, sym, ap, ◌∙◌, arith, length-drop}
use Rattle.std.specs.List.{list_any}
use Rattle.std.proofs.Math.Bool.{or-false}
use Rattle.std.proofs.lemmas.List.{drop_more, take_all, take-append-drop}
use Rattle.std.proofs.lemmas.List.Splits.{slice_split_at, slice_split_none}
use Rattle.http_wire.specs.Headers.{is_close, has_close}

-- the items of a text are its first one and those behind the comma
close_step : (rest : List ℕ) (end : ℕ) → end < length rest → All (λ b. (b == 44) ≡ false) (take end rest) → get_or rest end 0 ≡ 44
    → has_close rest ≡ (is_close (take end rest) || has_close (drop (end + 1) rest))
close_step rest end within none is =
    let cut : rest ≡ take end rest ++ get_or rest end 0 ∷ drop (end + 1) rest
    = sym (take-append-drop end rest) ∙ ap (λ t. take end rest ++ t) (drop_more rest end 0 within) in
    ap has_close cut
    ∙ ap (list_any is_close) (slice_split_at (λ (b : ℕ). b == 44) (take end rest) (get_or rest end 0) (drop (end + 1) rest) none (ap (λ b. b == 44) is))

by_first : (x y z : Bool) → x ≡ (y || z) → y ≡ false → x ≡ z
by_first x true z is none = absurd (cc)
by_first x false z is none = is

pub close_behind : (rest : List ℕ) (end : ℕ) → end < length rest → All (λ b. (b == 44) ≡ false) (take end rest) → get_or rest end 0 ≡ 44
    → is_close (take end rest) ≡ false → has_close rest ≡ has_close (take (length rest - (end + 1)) (drop (end + 1) rest))
close_behind rest end within none is other =
    by_first _ _ _ (close_step rest end within none is) other
    ∙ ap has_close (sym (take_all (length rest - (end + 1)) (drop (end + 1) rest) (omega (arith, length-drop (end + 1) rest))))

by_found : (x y z : Bool) → x ≡ (y || z) → y ≡ true → x ≡ true
by_found x true z is found = is
by_found x false z is found = absurd (cc)

pub close_found : (rest : List ℕ) (end : ℕ) → end < length rest → All (λ b. (b == 44) ≡ false) (take end rest) → get_or rest end 0 ≡ 44
    → is_close (take end rest) ≡ true → has_close rest ≡ true
close_found rest end within none is found = by_found _ _ _ (close_step rest end within none is) found

pub close_last : (rest : List ℕ) → All (λ b. (b == 44) ≡ false) rest → has_close rest ≡ is_close rest
close_last rest none = ap (list_any is_close) (slice_split_none (λ (b : ℕ). b == 44) rest none) ∙ or-false (is_close rest)
