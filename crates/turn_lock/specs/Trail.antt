-- A trail: the jobs so far, each with its answer, in the order in which they were answered.
use Rattle.std.specs.Prelude.{◌≡◌, ◌≢◌, ℕ, List, [], ◌∷◌, ◌++◌, length, Bool, nat_lt, MatchBool, if◌then◌else◌}

-- the list begins with these
abbrev pub StartsWith : {A : Type 0} → List A → List A → Type 0
StartsWith {A} all front = (rest : List A) × (all ≡ front ++ rest)

-- the longer of two lists
abbrev pub longer : {A : Type 0} → List A → List A → List A
longer xs ys = if nat_lt (length xs) (length ys) then ys else xs

abbrev pub shorter : {A : Type 0} → List A → List A → List A
shorter xs ys = if nat_lt (length xs) (length ys) then xs else ys

-- What one answer does to the trail. One that refuses adds nothing, and is given where the trail has as many members as the limit, and only there.
-- Any other becomes the last member, with its job
abbrev pub Adds : {J A : Type 0} → Bool → ℕ → J → A → List (J × A) → List (J × A) → Type 0
Adds refused limit job answer before after =
    MatchBool refused
    ((after ≡ before) × (length before ≡ limit))
    ((after ≡ before ++ (job, answer) ∷ []) × (length before ≢ limit))
