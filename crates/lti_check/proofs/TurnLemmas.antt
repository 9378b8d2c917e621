-- What a turn makes of what was fed, or of the end of the input, once the pending verdict lines were written.
use Rattle.std.proofs.Common.{◌≡◌, ℕ, ◌+◌, ◌<◌, ◌≤◌, inl, inr, true, false, List, [], ◌++◌, length, refl, sym, ap, ◌∙◌, subst, ⊎_elim, append_assoc, append-nil, arith, string_bytes, Result, Ok, Err}
use Rattle.std.specs.Prelude.{⊤}
use Rattle.std.specs.Str.Lines.{lines}
use Rattle.lti_outside.specs.Traffic.{Traffic, Moves, no_fault, read_fault, IsAtEnd, IsLeft, GivesFront}
use Rattle.lti_outside.specs.declared.limits.Limits.{Limits}
use Rattle.lti_outside.proofs.TrafficLemmas.{Moves-same, Moves-then, Moves-gives, IsAtEnd-gives, IsLeft-at_end}
use Rattle.lti_words.specs.Command.{CheckCommand}
use Rattle.lti_check.specs.Verdicts.{AreAnswered, AnswersAll, AnswersBefore, AnswersFront, AnswersLines, Checks}
use Rattle.lti_check.specs.SoFar.{LedTo, Feeds, Finishes, Turns, IsFresh, budget}
use Rattle.lti_check.specs.declared.answered_lines.AnsweredLines.{AnsweredLines}
use Rattle.lti_check.specs.declared.stop.Stop.{Stop}
use Rattle.lti_check.specs.declared.stop.Stop.TheVariants.{ReadFault, WriteFault, NoMemory, Refused}
use Rattle.lti_check.proofs.SoFarLemmas as so_far
use Rattle.lti_check.proofs.FeedLemmas.{IsSoFar-as, window_as}

module _ (command : CheckCommand) (limits : Limits) where
  -- less was written, or the end was told otherwise
  Front-as : (at_end at_end' : Type 0) (read written written' rest : List ℕ) → (at_end → at_end') → written ≡ written' ++ rest
      → AnswersFront command limits at_end read written → AnswersFront command limits at_end' read written'
  Front-as at_end at_end' read written written' rest ends is front = record {
    whole = front.whole;
    rest = front.rest;
    missing = rest ++ front.missing;
    accepted = front.accepted;
    cut = front.cut;
    ends = ⊎_elim (λ ended. inl ended) (λ at. inr (at.0, ends at.1)) front.ends;
    answered = subst (λ (w : List ℕ). AreAnswered command limits (lines front.whole) w front.accepted)
        (ap (λ w. w ++ front.missing) is ∙ append_assoc written' rest front.missing) front.answered;
  }

  Before-as : (left left' : List ℕ → Type 0) (read written : List ℕ) → ((more : List ℕ) → left' more → left more)
      → AnswersBefore command limits left read written → AnswersBefore command limits left' read written
  Before-as left left' read written weaker before = record {
    front = before.front;
    accepted = before.accepted;
    answered = before.answered;
    refused = λ more is_left. before.refused more (weaker more is_left);
  }

  Front-all : (read written : List ℕ) → AnswersAll command limits read written → AnswersFront command limits ⊤ read written
  Front-all read written all = record {
    whole = read;
    rest = [];
    missing = [];
    accepted = all.accepted;
    cut = sym (append-nil read);
    ends = inr (refl, tt);
    answered = subst (λ (w : List ℕ). AreAnswered command limits (lines read) w all.accepted) (sym (append-nil written)) all.answered;
  }

  -- whatever the end of the input led to, the lines that were answered were read whole
  finish_front : (before after : AnsweredLines) (result : Result Unit Stop) (read written : List ℕ) → LedTo command limits read written before
      → Finishes command limits before after result → AnswersFront command limits ⊤ read (written ++ string_bytes after.pending)
  finish_front before after (Ok _) read written led finished = Front-all read (written ++ string_bytes after.pending) (finished read written led)
  finish_front before after (Err ReadFault) read written led finished = absurd finished
  finish_front before after (Err WriteFault) read written led finished = absurd finished
  finish_front before after (Err NoMemory) read written led finished = finished read written led
  finish_front before after (Err Refused) read written led finished = (finished read written led).0

  feed_front : (before after : AnsweredLines) (bytes : List ℕ) (result : Result Unit Stop) (read written : List ℕ) → LedTo command limits read written before
      → Feeds command limits before bytes after result → AnswersFront command limits ⊥ (read ++ bytes) (written ++ string_bytes after.pending)
  feed_front before after bytes (Ok _) read written led fed =
      subst (λ (r : List ℕ). AnswersFront command limits ⊥ r (written ++ string_bytes after.pending)) (append-nil (read ++ bytes))
      (so_far.front_of command limits (read ++ bytes) (written ++ string_bytes after.pending) after.held.items after.count (fed read written led).0.accepted (fed read written led).0.so_far ⊥ [])
  feed_front before after bytes (Err ReadFault) read written led fed = absurd fed
  feed_front before after bytes (Err WriteFault) read written led fed = absurd fed
  feed_front before after bytes (Err NoMemory) read written led fed = fed read written led
  feed_front before after bytes (Err Refused) read written led fed = (fed read written led).0

  -- the run ended at a line, or for want of memory, and what was pending is written
  fed_stop : (to : Traffic) (before after : AnsweredLines) (bytes : List ℕ) (stop : Stop) (read written : List ℕ) → LedTo command limits read written before
      → Feeds command limits before bytes after (Err stop) → AnswersLines command limits to (read ++ bytes) (written ++ string_bytes after.pending) (Err stop)
  fed_stop to before after bytes ReadFault read written led fed = absurd fed
  fed_stop to before after bytes WriteFault read written led fed = absurd fed
  fed_stop to before after bytes NoMemory read written led fed =
      Front-as ⊥ (IsAtEnd to) (read ++ bytes) _ _ [] (λ none. absurd none) (sym (append-nil _)) (fed read written led)
  fed_stop to before after bytes Refused read written led fed =
      Before-as (λ _. ⊤) (IsLeft to) (read ++ bytes) _ (λ more is_left. tt) (fed read written led).1

  finished_stop : (to : Traffic) (before after : AnsweredLines) (stop : Stop) (read written : List ℕ) → IsAtEnd to → LedTo command limits read written before
      → Finishes command limits before after (Err stop) → AnswersLines command limits to read (written ++ string_bytes after.pending) (Err stop)
  finished_stop to before after ReadFault read written end led finished = absurd finished
  finished_stop to before after WriteFault read written end led finished = absurd finished
  finished_stop to before after NoMemory read written end led finished =
      Front-as ⊤ (IsAtEnd to) read _ _ [] (λ _. end) (sym (append-nil _)) (finished read written led)
  finished_stop to before after Refused read written end led finished =
      Before-as (λ more. more ≡ []) (IsLeft to) read _ (λ more is_left. IsLeft-at_end to more end is_left) (finished read written led).1

  -- a front of what was pending is written
  cut_off : (to : Traffic) (at_end : Type 0) (read written pending front : List ℕ) (rest : List ℕ) → (at_end → IsAtEnd to) → pending ≡ front ++ rest
      → AnswersFront command limits at_end read (written ++ pending) → AnswersFront command limits (IsAtEnd to) read (written ++ front)
  cut_off to at_end read written pending front rest ends is told =
      Front-as at_end (IsAtEnd to) read (written ++ pending) (written ++ front) rest ends (ap (λ p. written ++ p) is ∙ sym (append_assoc written front rest)) told

  -- no bytes could be taken
  pub take_failed : (from to : Traffic) (before after : AnsweredLines) → Moves from to [] [] read_fault → Turns command limits from to before after (Err ReadFault)
  take_failed from to before after moves = λ read written none led. (
    [],
    [],
    moves,
    subst (λ (p : List ℕ). AnswersFront command limits (IsAtEnd to) (read ++ []) (written ++ p)) none
        (so_far.front_of command limits read (written ++ string_bytes before.pending) before.held.items before.count led.accepted led.so_far (IsAtEnd to) []),
  )

  -- the input was at its end
  module _ (from mid to : Traffic) (before told after : AnsweredLines) (taken : Moves from mid [] [] no_fault) (end : IsAtEnd mid) where
    pub end_write_failed : (result : Result Unit Stop) → Finishes command limits before told result → GivesFront mid to (string_bytes told.pending)
        → Turns command limits from to before after (Err WriteFault)
    end_write_failed result finished gives = λ read written none led. (
      [],
      gives.front,
      Moves-gives taken gives.moves,
      cut_off to ⊤ (read ++ []) written (string_bytes told.pending) gives.front gives.proper.0 (λ _. IsAtEnd-gives gives.moves end) gives.proper.2
          (subst (λ (r : List ℕ). AnswersFront command limits ⊤ r (written ++ string_bytes told.pending)) (sym (append-nil read)) (finish_front before told result read written led finished)),
    )

    module _ (given : Moves mid to [] (string_bytes told.pending) no_fault) where
      pub end_stopped : (stop : Stop) → Finishes command limits before told (Err stop) → Turns command limits from to before after (Err stop)
      end_stopped ReadFault finished = absurd finished
      end_stopped WriteFault finished = absurd finished
      end_stopped NoMemory finished = λ read written none led. (
        [],
        string_bytes told.pending,
        Moves-gives taken given,
        subst (λ (r : List ℕ). AnswersLines command limits to r (written ++ string_bytes told.pending) (Err NoMemory)) (sym (append-nil read))
            (finished_stop to before told NoMemory read written (IsAtEnd-gives given end) led finished),
      )
      end_stopped Refused finished = λ read written none led. (
        [],
        string_bytes told.pending,
        Moves-gives taken given,
        subst (λ (r : List ℕ). AnswersLines command limits to r (written ++ string_bytes told.pending) (Err Refused)) (sym (append-nil read))
            (finished_stop to before told Refused read written (IsAtEnd-gives given end) led finished),
      )

      pub end_done : Finishes command limits before told (Ok tt) → Turns command limits from to before after (Ok true)
      end_done finished = λ read written none led. (
        [],
        string_bytes told.pending,
        Moves-gives taken given,
        (
          IsAtEnd-gives given end,
          subst (λ (r : List ℕ). AnswersAll command limits r (written ++ string_bytes told.pending)) (sym (append-nil read)) (finished read written led),
        ),
      )

  -- bytes were taken
  module _ (from mid to : Traffic) (before told after : AnsweredLines) (bytes : List ℕ) (taken : Moves from mid bytes [] no_fault) where
    pub go_write_failed : (result : Result Unit Stop) → Feeds command limits before bytes told result → GivesFront mid to (string_bytes told.pending)
        → Turns command limits from to before after (Err WriteFault)
    go_write_failed result fed gives = λ read written none led. (
      bytes,
      gives.front,
      Moves-gives taken gives.moves,
      cut_off to ⊥ (read ++ bytes) written (string_bytes told.pending) gives.front gives.proper.0 (λ at. absurd at) gives.proper.2 (feed_front before told bytes result read written led fed),
    )

    module _ (given : Moves mid to [] (string_bytes told.pending) no_fault) where
      pub go_stopped : (stop : Stop) → Feeds command limits before bytes told (Err stop) → Turns command limits from to before after (Err stop)
      go_stopped ReadFault fed = absurd fed
      go_stopped WriteFault fed = absurd fed
      go_stopped NoMemory fed = λ read written none led. (bytes, string_bytes told.pending, Moves-gives taken given, fed_stop to before told bytes NoMemory read written led fed)
      go_stopped Refused fed = λ read written none led. (bytes, string_bytes told.pending, Moves-gives taken given, fed_stop to before told bytes Refused read written led fed)

      pub go_on : 0 < length bytes → Feeds command limits before bytes told (Ok tt) → after ≡ record told { pending = after.pending } → string_bytes after.pending ≡ []
          → Turns command limits from to before after (Ok false)
      go_on some fed same empty = λ read written none led.
          let now = fed read written led in
          let held = sym (ap (λ (a : AnsweredLines). a.held.items) same) in
          let count = sym (ap (λ (a : AnsweredLines). a.count) same) in
          let window = sym (ap (λ (a : AnsweredLines). a.window) same) in
          let spent : budget limits after.count after.held.items + length bytes ≤ budget limits before.count before.held.items =
          subst (λ (h : List ℕ). budget limits after.count h + length bytes ≤ budget limits before.count before.held.items) held
          (subst (λ (n : ℕ). budget limits n told.held.items + length bytes ≤ budget limits before.count before.held.items) count now.1) in (
            bytes,
            string_bytes told.pending,
            Moves-gives taken given,
            record {
              accepted = now.0.accepted;
              window = window_as command limits told.window after.window now.0.accepted window now.0.window;
              so_far = IsSoFar-as command limits (sym (append-nil (written ++ string_bytes told.pending)) ∙ ap (λ p. (written ++ string_bytes told.pending) ++ p) (sym empty)) held count refl now.0.so_far;
            },
            empty,
            omega (arith, spent),
          )

  -- nothing was read yet
  pub fresh_led : (state : AnsweredLines) → IsFresh limits state → LedTo command limits [] [] state
  fresh_led state fresh = record {
    accepted = [];
    window = fresh.window;
    so_far = IsSoFar-as command limits (sym fresh.pending) (sym fresh.held) (sym fresh.count) refl (so_far.start command limits);
  }

  -- memory ran out before anything was read
  pub run_none : (from : Traffic) → Checks command limits from from (Err NoMemory)
  run_none from = record {
    read = [];
    written = [];
    moves = Moves-same from;
    answers = so_far.front_of command limits [] [] [] 0 [] (so_far.start command limits) (IsAtEnd from) [];
  }

  -- the last turn of a run
  module _ (from mid to : Traffic) (before after : AnsweredLines) (read written : List ℕ) (moved : Moves from mid read written no_fault)
      (led : LedTo command limits read written before) (none : string_bytes before.pending ≡ []) where
    pub run_done : Turns command limits mid to before after (Ok true) → Checks command limits from to (Ok tt)
    run_done turned =
        let now = turned read written none led in
        record {
          read = read ++ now.0;
          written = written ++ now.1;
          moves = Moves-then moved now.2;
          answers = now.3;
        }

    pub run_stopped : (stop : Stop) → Turns command limits mid to before after (Err stop) → Checks command limits from to (Err stop)
    run_stopped stop turned =
        let now = turned read written none led in
        record {
          read = read ++ now.0;
          written = written ++ now.1;
          moves = Moves-then moved now.2;
          answers = now.3;
        }
