-- The lines of a head (RFC 9112, section 2.2).
use Rattle.std.specs.Prelude.{◌+◌, ◌==◌, ◌&&◌, ◌||◌, not, nat_eq, nat_lt, ℕ, Bool, false, if◌then◌else◌, List, [], ◌∷◌, length, filter}
use Rattle.std.specs.List.{starts_with}
use Rattle.lti_outside.specs.declared.limits.Limits.{Limits}
use Rattle.http_wire.specs.declared.fault.WireFault.{WireFault}
use Rattle.http_wire.specs.declared.fault.WireFault.TheVariants.{TooManyHeaders, BadHead}
use Rattle.http_wire.specs.Conditions.{Condition}

-- the number of pairs CR LF, behind a byte
abbrev pub line_ends : ℕ → List ℕ → ℕ
line_ends before [] = 0
line_ends before (b ∷ bytes) = (if before == 13 && b == 10 then 1 else 0) + line_ends b bytes

-- an LF stands without a CR before it, behind a byte
abbrev pub has_bare_line_feed : ℕ → List ℕ → Bool
has_bare_line_feed before [] = false
has_bare_line_feed before (b ∷ bytes) = (b == 10 && not (before == 13)) || has_bare_line_feed b bytes

-- the number of line feeds
unfoldable pub line_feeds : List ℕ → ℕ
line_feeds bytes = length (filter (λ b. b == 10) bytes)

-- the conditions on the lines of a head: more than the header lines allowed, the first line and the empty line; a
-- bare LF; an empty first line
abbrev pub line_conditions : Limits → List ℕ → List (Condition WireFault)
line_conditions limits head =
    record { holds = nat_lt (limits.headers + 2) (line_ends 0 head); fault = TooManyHeaders }
    ∷ record { holds = has_bare_line_feed 0 head; fault = BadHead }
    ∷ record { holds = starts_with nat_eq head (13 ∷ 10 ∷ []); fault = BadHead } ∷ []
