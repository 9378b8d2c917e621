-- The lines that were answered so far, in whatever pieces their bytes came.
use Rattle.std.specs.Prelude.{◌≡◌, Bool, true, false, ◌≤◌, ◌<◌, ◌⊎◌, ◌+◌, ◌-◌, ◌*◌, ℕ, List, [], ◌++◌, length, string_bytes, ⊤, Result, Ok, Err}
use Rattle.std.specs.Str.Lines.{lines}
use Rattle.lti_outside.specs.Traffic.{Traffic, Moves, no_fault}
use Rattle.lti_outside.specs.declared.limits.Limits.{Limits}
use Rattle.lti_machine.specs.declared.entry.Entry.{Entry}
use Rattle.nonce_window.specs.Window.{WindowValue}
use Rattle.lti_words.specs.Command.{CheckCommand}
use Rattle.lti_check.specs.Lines.{HasNoNewline, EndsLine}
use Rattle.lti_check.specs.Noting.{HoldsCalls}
use Rattle.lti_check.specs.Verdicts.{Judges, verdict_line, AreAnswered, AnswersAll, AnswersBefore, AnswersFront, AnswersLines}
use Rattle.lti_check.specs.Stops.{stop_fault}
use Rattle.lti_check.specs.declared.answered_lines.AnsweredLines.{AnsweredLines}
use Rattle.lti_check.specs.declared.verdict.Verdict.{Verdict}
use Rattle.lti_check.specs.declared.stop.Stop.{Stop}
use Rattle.lti_check.specs.declared.stop.Stop.TheVariants.{ReadFault, WriteFault, NoMemory, Refused}

-- what was read is whole lines, which were answered, and the front of a line, which is held
pub record IsSoFar (command : CheckCommand) (limits : Limits) (read written held : List ℕ) (count : ℕ) (accepted : List Entry) : Type 0 where
  pub whole : List ℕ
  pub cut : read ≡ whole ++ held
  pub ended : EndsLine whole
  pub answered : AreAnswered command limits (lines whole) written accepted
  pub counted : length (lines whole) ≡ count
  pub parted : (more : List ℕ) → lines (whole ++ more) ≡ lines whole ++ lines more
  pub begun : HasNoNewline held
  pub short : length held ≤ limits.body + 1
  pub few : count ≤ limits.calls

-- the bytes read, and the verdict lines made and written, led to this state, whose window holds the accepted calls
pub record LedTo (command : CheckCommand) (limits : Limits) (read written : List ℕ) (state : AnsweredLines) : Type 0 where
  pub accepted : List Entry
  pub window : HoldsCalls limits.window state.window accepted
  pub so_far : IsSoFar command limits read (written ++ string_bytes state.pending) state.held.items state.count accepted

-- whichever calls the window held, this is the verdict of the line over them, and it holds those after it
abbrev pub JudgesOver : CheckCommand → Limits → WindowValue → List ℕ → Verdict → WindowValue → Type 0
JudgesOver command limits before line verdict after =
    (accepted : List Entry) → HoldsCalls limits.window before accepted
    → (later : List Entry) × Judges command limits accepted line verdict later × HoldsCalls limits.window after later

-- what answering one line did: its verdict line is pending, or nothing more is
abbrev pub LineTold : CheckCommand → Limits → AnsweredLines → List ℕ → AnsweredLines → Result Unit Stop → Type 0
LineTold command limits before line after (Ok _) =
    (verdict : Verdict) × (length line ≤ limits.body) × (before.count < limits.calls) × JudgesOver command limits before.window line verdict after.window
    × (string_bytes after.pending ≡ string_bytes before.pending ++ verdict_line verdict) × (after.count ≡ before.count + 1) × (after.held ≡ before.held)
LineTold command limits before line after (Err Refused) =
    (string_bytes after.pending ≡ string_bytes before.pending) × ((limits.calls ≤ before.count) ⊎ (limits.body < length line))
LineTold command limits before line after (Err NoMemory) = string_bytes after.pending ≡ string_bytes before.pending
LineTold command limits before line after (Err ReadFault) = ⊥
LineTold command limits before line after (Err WriteFault) = ⊥

-- nothing was read, answered or accepted yet
pub record IsFresh (limits : Limits) (state : AnsweredLines) : Type 0 where
  pub window : HoldsCalls limits.window state.window []
  pub held : state.held.items ≡ []
  pub count : state.count ≡ 0
  pub pending : string_bytes state.pending ≡ []

-- how many more bytes the limits allow at most
unfoldable pub budget : Limits → ℕ → List ℕ → ℕ
budget limits count held = (limits.calls - count) * (limits.body + 3) + (limits.body + 2 - length held)

-- Whatever led to the state before, these bytes led to the state after, or to the end of the run.
abbrev pub Feeds : CheckCommand → Limits → AnsweredLines → List ℕ → AnsweredLines → Result Unit Stop → Type 0
Feeds command limits before bytes after (Ok _) =
    (read written : List ℕ) → LedTo command limits read written before
    → LedTo command limits (read ++ bytes) written after
    × (budget limits after.count after.held.items + length bytes ≤ budget limits before.count before.held.items)
Feeds command limits before bytes after (Err Refused) =
    (read written : List ℕ) → LedTo command limits read written before
    → AnswersFront command limits ⊥ (read ++ bytes) (written ++ string_bytes after.pending)
    × AnswersBefore command limits (λ _. ⊤) (read ++ bytes) (written ++ string_bytes after.pending)
Feeds command limits before bytes after (Err NoMemory) =
    (read written : List ℕ) → LedTo command limits read written before
    → AnswersFront command limits ⊥ (read ++ bytes) (written ++ string_bytes after.pending)
Feeds command limits before bytes after (Err ReadFault) = ⊥
Feeds command limits before bytes after (Err WriteFault) = ⊥

-- Whatever led to the state before, the end of the input led to the end of the run.
abbrev pub Finishes : CheckCommand → Limits → AnsweredLines → AnsweredLines → Result Unit Stop → Type 0
Finishes command limits before after (Ok _) =
    (read written : List ℕ) → LedTo command limits read written before
    → AnswersAll command limits read (written ++ string_bytes after.pending)
Finishes command limits before after (Err Refused) =
    (read written : List ℕ) → LedTo command limits read written before
    → AnswersFront command limits ⊤ read (written ++ string_bytes after.pending)
    × AnswersBefore command limits (λ more. more ≡ []) read (written ++ string_bytes after.pending)
Finishes command limits before after (Err NoMemory) =
    (read written : List ℕ) → LedTo command limits read written before
    → AnswersFront command limits ⊤ read (written ++ string_bytes after.pending)
Finishes command limits before after (Err ReadFault) = ⊥
Finishes command limits before after (Err WriteFault) = ⊥

-- One turn of the run: what was taken and given, and what it led to. Nothing is pending between turns.
abbrev pub Turns : CheckCommand → Limits → Traffic → Traffic → AnsweredLines → AnsweredLines → Result Bool Stop → Type 0
Turns command limits from to before after (Ok false) =
    (read written : List ℕ) → string_bytes before.pending ≡ [] → LedTo command limits read written before
    → (taken : List ℕ) × (given : List ℕ) × Moves from to taken given no_fault × LedTo command limits (read ++ taken) (written ++ given) after
    × (string_bytes after.pending ≡ []) × (budget limits after.count after.held.items < budget limits before.count before.held.items)
Turns command limits from to before after (Ok true) =
    (read written : List ℕ) → string_bytes before.pending ≡ [] → LedTo command limits read written before
    → (taken : List ℕ) × (given : List ℕ) × Moves from to taken given no_fault × AnswersLines command limits to (read ++ taken) (written ++ given) (Ok tt)
Turns command limits from to before after (Err stop) =
    (read written : List ℕ) → string_bytes before.pending ≡ [] → LedTo command limits read written before
    → (taken : List ℕ) × (given : List ℕ) × Moves from to taken given (stop_fault stop) × AnswersLines command limits to (read ++ taken) (written ++ given) (Err stop)
