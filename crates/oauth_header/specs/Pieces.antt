-- Where a header's value is cut first.
use Rattle.std.specs.Prelude.{ℕ, suc, Bool, not, ◌&&◌, ◌==◌, List, [], ◌∷◌, if◌then◌else◌}

-- how many bytes stand before the first comma that has an even number of `"` before it, or all where there is none
unfoldable pub piece_len : Bool → List ℕ → ℕ
piece_len odd [] = 0
piece_len odd (b ∷ text) =
    if b == 44 && not odd then 0 else suc (piece_len (if b == 34 then not odd else odd) text)
