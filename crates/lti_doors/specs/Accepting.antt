-- What comes of an `accept`, and which of its errors are tried again. The numbers of errors are those of Linux, and
-- accept(2) tells what they mean.
use Rattle.std.specs.Prelude.{◌≡◌, ◌<◌, ◌⊎◌, ℕ, ℤ, pos, negsuc, Bool, true, false, ◌||◌, ◌==◌, List, [], ◌∷◌, ◌++◌, length, All, ⊤, Option, Some, None, Result, Ok, Err}
use Rattle.std.specs.List.{list_any}
use Rattle.std.specs.IoError.{error_kind, raw_os_error}
use Rattle.std.specs.declared.io.Error.{Error}
use Rattle.std.specs.declared.io.ErrorKind.{ErrorKind}
use Rattle.std.specs.declared.io.ErrorKind.TheVariants.{ConnectionAborted, ConnectionReset, HostUnreachable, NetworkUnreachable, NetworkDown, Interrupted, TimedOut, WouldBlock, OutOfMemory}

-- the connection alone was lost, or the call was cut short
abbrev pub is_lost_kind : ErrorKind → Bool
is_lost_kind ConnectionAborted = true
is_lost_kind ConnectionReset = true
is_lost_kind HostUnreachable = true
is_lost_kind NetworkUnreachable = true
is_lost_kind NetworkDown = true
is_lost_kind Interrupted = true
is_lost_kind TimedOut = true
is_lost_kind _ = false

-- ENONET, EPROTO, ENOPROTOOPT, EOPNOTSUPP and EHOSTDOWN, which have no kind of their own
abbrev pub lost_numbers : List ℕ
lost_numbers = 64 ∷ 71 ∷ 92 ∷ 95 ∷ 112 ∷ []

-- no connection came, or there is no memory for it
abbrev pub is_short_kind : ErrorKind → Bool
is_short_kind WouldBlock = true
is_short_kind OutOfMemory = true
is_short_kind _ = false

-- ENFILE, EMFILE and ENOBUFS, which have no kind of their own: no descriptor or no room is left for it
abbrev pub short_numbers : List ℕ
short_numbers = 23 ∷ 24 ∷ 105 ∷ []

-- the error has one of these numbers
abbrev pub is_numbered : List ℕ → Option ℤ → Bool
is_numbered numbers None = false
is_numbered numbers (Some (pos number)) = list_any (λ n. number == n) numbers
is_numbered numbers (Some (negsuc number)) = false

abbrev pub is_tried_at_once : Error → Bool
is_tried_at_once error = is_lost_kind (error_kind error) || is_numbered lost_numbers (raw_os_error error)

abbrev pub is_tried_later : Error → Bool
is_tried_later error = is_short_kind (error_kind error) || is_numbered short_numbers (raw_os_error error)

-- an `accept` that fails so is followed by another
abbrev pub is_tried_again : Error → Bool
is_tried_again error = is_tried_at_once error || is_tried_later error

-- a connection came, or an error
pub data Attempt : Type 0 where
  came : Attempt
  refused : Error → Attempt

abbrev pub attempt_of : {S : Type 0} → Result S Error → Attempt
attempt_of (Ok stream) = came
attempt_of (Err error) = refused error

-- this came of one more call, as far as a listener tells it; it may stop telling, and then tells nothing any more
abbrev pub Adds : Option (List Attempt) → Option (List Attempt) → Attempt → Type 0
Adds None after attempt = after ≡ None
Adds (Some before) None attempt = ⊤
Adds (Some before) (Some after) attempt = after ≡ before ++ attempt ∷ []

-- what came of the calls in between is as said, as far as a listener tells it
abbrev pub Makes : Option (List Attempt) → Option (List Attempt) → (List Attempt → Type 0) → Type 0
Makes None after IsSaid = after ≡ None
Makes (Some before) None IsSaid = ⊤
Makes (Some before) (Some after) IsSaid = (made : List Attempt) × (after ≡ before ++ made) × IsSaid made

-- after such an attempt there is another: the connection could not be set up, or the error is tried again
abbrev pub IsPassed : Attempt → Type 0
IsPassed came = ⊤
IsPassed (refused error) = is_tried_again error ≡ true

-- so many attempts, and after each another
abbrev pub PassesBy : ℕ → List Attempt → Type 0
PassesBy n made = All IsPassed made × (length made ≡ n)

-- a connection came at last, at most at the millionth attempt
abbrev pub EndsInConnection : List Attempt → Type 0
EndsInConnection made =
    (passed : List Attempt) × (made ≡ passed ++ came ∷ []) × All IsPassed passed × (length passed < 1_000_000)

-- an error came at last that is not tried again, at most at the millionth attempt
abbrev pub EndsInError : List Attempt → Type 0
EndsInError made =
    (passed : List Attempt) × (error : Error) × (made ≡ passed ++ refused error ∷ []) × (is_tried_again error ≡ false)
    × All IsPassed passed × (length passed < 1_000_000)

-- a million attempts were made, or one ended in an error that is not tried again
abbrev pub GivesUp : List Attempt → Type 0
GivesUp made = PassesBy 1_000_000 made ⊎ EndsInError made
