-- What a scale may make of a score.
use Rattle.std.specs.Prelude.{ℕ, ◌+◌, ◌*◌, ◌^◌, ◌<◌, ◌≤◌}

-- n units of 10^-30 are a score, and most is a number of points that a scale may have
abbrev pub IsAsked : ℕ → ℕ → Type 0
IsAsked n most = (n ≤ 10 ^ 30) × (1 ≤ most) × (most ≤ 1000000)

-- at most the greatest number of points, and less than one point from the exact share
abbrev pub IsNear : ℕ → ℕ → ℕ → Type 0
IsNear n most points = (points ≤ most) × (points * 10 ^ 30 < n * most + 10 ^ 30) × (n * most < points * 10 ^ 30 + 10 ^ 30)
