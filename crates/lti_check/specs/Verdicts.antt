-- The verdict lines of a whole input (this project's own).
use Rattle.std.specs.Prelude.{◌≡◌, ◌<◌, ◌≤◌, ◌⊎◌, ℕ, List, [], ◌∷◌, ◌++◌, length, codes, decimal, Result, Ok, Err}
use Rattle.std.specs.List.{flat_map}
use Rattle.std.specs.Str.Lines.{lines}
use Rattle.lti_outside.specs.Traffic.{Traffic, Moves, IsAtEnd, IsLeft}
use Rattle.lti_outside.specs.declared.limits.Limits.{Limits}
use Rattle.lti_machine.specs.Rules.{decide, after}
use Rattle.lti_machine.specs.declared.call.Call.{Call}
use Rattle.lti_machine.specs.declared.call.Action.TheVariants.{Note}
use Rattle.lti_machine.specs.declared.entry.Entry.{Entry}
use Rattle.lti_machine.specs.declared.reply.Reply.{Reply}
use Rattle.lti_machine.specs.declared.reply.Reply.TheVariants.{Outside, Used, WindowFull, JournalFull, DiskFault, RunFull, NoMemory}
use Rattle.oauth_request.specs.declared.checking.Signed.{Signed}
use Rattle.lti_words.specs.Command.{CheckCommand}
use Rattle.lti_check.specs.Checked.{HasFault, IsWellSigned}
use Rattle.lti_check.specs.Lines.{EndsLine}
use Rattle.lti_check.specs.Stops.{fault_of}
use Rattle.lti_check.specs.declared.verdict.Verdict.{Verdict}
use Rattle.lti_check.specs.declared.verdict.Verdict.TheVariants.{BadForm, BadSignature, Replied}
use Rattle.lti_check.specs.declared.stop.Stop.{Stop}
use Rattle.lti_check.specs.declared.stop.Stop.TheVariants as stop

-- the call that a well signed form makes
abbrev pub line_call : CheckCommand → Signed → Call
line_call command signed =
    record { caller = 0; moment = command.moment; key = signed.key; timestamp = signed.timestamp; nonce = signed.nonce; action = Note }

-- The verdict of a line, where these calls were accepted before it, and the accepted calls after it.
abbrev pub Judges : CheckCommand → Limits → List Entry → List ℕ → Verdict → List Entry → Type 0
Judges command limits before line BadForm later = HasFault 400 command limits.field line × (later ≡ before)
Judges command limits before line BadSignature later = HasFault 401 command limits.field line × (later ≡ before)
Judges command limits before line (Replied reply) later =
    (signed : Signed) × IsWellSigned command limits.field line signed
    × (reply ≡ decide before (line_call command signed) limits.window) × (later ≡ after before (line_call command signed) reply)

-- a verdict for each line, in order, down to the accepted calls after the last one; no line is over the limit
abbrev pub AreVerdicts : CheckCommand → Limits → List Entry → List (List ℕ) → List Verdict → List Entry → Type 0
AreVerdicts command limits before [] [] later = later ≡ before
AreVerdicts command limits before [] (v ∷ vs) later = ⊥
AreVerdicts command limits before (l ∷ ls) [] later = ⊥
AreVerdicts command limits before (l ∷ ls) (v ∷ vs) later =
    (length l ≤ limits.body) × (next : List Entry) × Judges command limits before l v next × AreVerdicts command limits next ls vs later

-- what is written for an answer of the machine, which notes a line or has one of these causes not to; want of memory ends
-- the run and has no line
abbrev pub reply_line : Reply → List ℕ
reply_line (Outside now) = codes "outside " ++ decimal now ++ 10 ∷ []
reply_line Used = codes "used" ++ 10 ∷ []
reply_line (WindowFull live) = codes "window full" ++ 10 ∷ []
reply_line (JournalFull free) = []
reply_line (DiskFault faults) = []
reply_line RunFull = []
reply_line NoMemory = []
reply_line _ = codes "accepted" ++ 10 ∷ []

-- what is written for a verdict
abbrev pub verdict_line : Verdict → List ℕ
verdict_line BadForm = codes "bad form" ++ 10 ∷ []
verdict_line BadSignature = codes "bad signature" ++ 10 ∷ []
verdict_line (Replied reply) = reply_line reply

-- The bytes are the verdict lines of these lines, in order, from the empty list of accepted calls down to this one.
pub record AreAnswered (command : CheckCommand) (limits : Limits) (ls : List (List ℕ)) (written : List ℕ) (accepted : List Entry) : Type 0 where
  pub verdicts : List Verdict
  pub are : AreVerdicts command limits [] ls verdicts accepted
  pub is : written ≡ flat_map verdict_line verdicts

-- all lines of the bytes were answered, and nothing else was written
pub record AnswersAll (command : CheckCommand) (limits : Limits) (read written : List ℕ) : Type 0 where
  pub few : length (lines read) ≤ limits.calls
  pub accepted : List Entry
  pub answered : AreAnswered command limits (lines read) written accepted

-- a line ends the run: as many lines stand before it as are allowed, or it has more bytes than are allowed
abbrev pub IsRefused : Limits → ℕ → List ℕ → Type 0
IsRefused limits before line = (limits.calls ≡ before) ⊎ (limits.body < length line)

-- Whatever is left of the input, its lines are those that were answered, one that ends the run, and others.
pub record AnswersBefore (command : CheckCommand) (limits : Limits) (left : List ℕ → Type 0) (read written : List ℕ) : Type 0 where
  pub front : List (List ℕ)
  pub accepted : List Entry
  pub answered : AreAnswered command limits front written accepted
  pub refused : (more : List ℕ) → left more
      → (line : List ℕ) × (rest : List (List ℕ)) × (lines (read ++ more) ≡ front ++ line ∷ rest) × IsRefused limits (length front) line

-- The bytes written are a front of the verdict lines of the lines that were read whole.
pub record AnswersFront (command : CheckCommand) (limits : Limits) (at_end : Type 0) (read written : List ℕ) : Type 0 where
  pub whole : List ℕ
  pub rest : List ℕ
  pub missing : List ℕ
  pub accepted : List Entry
  pub cut : read ≡ whole ++ rest
  pub ends : EndsLine whole ⊎ ((rest ≡ []) × at_end)
  pub answered : AreAnswered command limits (lines whole) (written ++ missing) accepted

-- by what the run ended with
abbrev pub AnswersLines : CheckCommand → Limits → Traffic → List ℕ → List ℕ → Result Unit Stop → Type 0
AnswersLines command limits after read written (Ok _) = IsAtEnd after × AnswersAll command limits read written
AnswersLines command limits after read written (Err stop.Refused) = AnswersBefore command limits (IsLeft after) read written
AnswersLines command limits after read written (Err stop.ReadFault) = AnswersFront command limits (IsAtEnd after) read written
AnswersLines command limits after read written (Err stop.WriteFault) = AnswersFront command limits (IsAtEnd after) read written
AnswersLines command limits after read written (Err stop.NoMemory) = AnswersFront command limits (IsAtEnd after) read written

-- What `check` took from the link and gave to it, by what it ended with.
pub record Checks (command : CheckCommand) (limits : Limits) (before after : Traffic) (result : Result Unit Stop) : Type 0 where
  pub read : List ℕ
  pub written : List ℕ
  pub moves : Moves before after read written (fault_of result)
  pub answers : AnswersLines command limits after read written result
