-- One attempt after others.
use Rattle.std.proofs.Common.{◌≡◌, ◌<◌, ◌+◌, ◌||◌, inl, inr, ℕ, Bool, true, false, List, [], ◌∷◌, ◌++◌, Option, Some, None, refl, sym, ap, ◌∙◌, subst, append-nil, append_assoc, length-append}
use Rattle.std.proofs.lemmas.List.Elements.{All-nil, All-push}
use Rattle.std.specs.declared.io.Error.{Error}
use Rattle.lti_doors.specs.Accepting.{Attempt, came, refused, Adds, Makes, IsPassed, PassesBy, EndsInConnection, GivesUp, is_tried_at_once, is_tried_later, is_tried_again}

pub Makes-none : (a : Option (List Attempt)) → Makes a a (PassesBy 0)
Makes-none None = refl
Makes-none (Some a) = ([], sym (append-nil a), (All-nil IsPassed, refl))

pub Makes-weaker : (P Q : List Attempt → Type 0) → ((made : List Attempt) → P made → Q made) → (a b : Option (List Attempt)) → Makes a b P → Makes a b Q
Makes-weaker P Q weaker None b makes = makes
Makes-weaker P Q weaker (Some a) None makes = tt
Makes-weaker P Q weaker (Some a) (Some b) makes = (makes.0, makes.1, weaker makes.0 makes.2)

Makes-then : (P Q : List Attempt → Type 0) (x : Attempt) → ((made : List Attempt) → P made → Q (made ++ x ∷ [])) → (a b c : Option (List Attempt)) → Makes a b P → Adds b c x → Makes a c Q
Makes-then P Q x more None b c makes adds = rw makes at adds
Makes-then P Q x more (Some a) None c makes adds = rw adds tt
Makes-then P Q x more (Some a) (Some b) None makes adds = tt
Makes-then P Q x more (Some a) (Some b) (Some c) makes adds = (
  makes.0 ++ x ∷ [],
  adds ∙ ap (λ l. l ++ x ∷ []) makes.1 ∙ append_assoc a makes.0 (x ∷ []),
  more makes.0 makes.2,
)

-- an attempt after which there is another
pub passes_on : (n : ℕ) (x : Attempt) (a b c : Option (List Attempt)) → IsPassed x → Makes a b (PassesBy n) → Adds b c x → Makes a c (PassesBy (n + 1))
passes_on n x a b c passed =
    Makes-then (PassesBy n) (PassesBy (n + 1)) x (λ made by. (All-push IsPassed made x by.0 passed, length-append made (x ∷ []) ∙ ap (λ k. k + 1) by.1)) a b c

-- the connection that is handed out
pub ends_in_connection : (n : ℕ) (a b c : Option (List Attempt)) → n < 1_000_000 → Makes a b (PassesBy n) → Adds b c came → Makes a c EndsInConnection
ends_in_connection n a b c below =
    Makes-then (PassesBy n) EndsInConnection came (λ made by. (made, refl, by.0, subst (λ k. k < 1_000_000) (sym by.1) below)) a b c

-- an error that is not tried again
pub ends_in_error : (n : ℕ) (error : Error) (a b c : Option (List Attempt)) → n < 1_000_000 → is_tried_again error ≡ false → Makes a b (PassesBy n) → Adds b c (refused error) → Makes a c GivesUp
ends_in_error n error a b c below over =
    Makes-then (PassesBy n) GivesUp (refused error) (λ made by. inr (made, error, refl, over, by.0, subst (λ k. k < 1_000_000) (sym by.1) below)) a b c

-- a million attempts
pub gives_up : (a b : Option (List Attempt)) → Makes a b (PassesBy 1_000_000) → Makes a b GivesUp
gives_up a b = Makes-weaker (PassesBy 1_000_000) GivesUp (λ made by. inl by) a b

second_holds : (p q : Bool) → q ≡ true → (p || q) ≡ true
second_holds true q holds = refl
second_holds false q holds = holds

-- an error that is tried again at once, later or not at all
pub at_once : (error : Error) → is_tried_at_once error ≡ true → IsPassed (refused error)
at_once error holds = rw holds refl

pub later : (error : Error) → is_tried_later error ≡ true → IsPassed (refused error)
later error holds = second_holds (is_tried_at_once error) (is_tried_later error) holds

pub never : (error : Error) → is_tried_at_once error ≡ false → is_tried_later error ≡ false → is_tried_again error ≡ false
never error not_at_once not_later = rw not_at_once not_later
