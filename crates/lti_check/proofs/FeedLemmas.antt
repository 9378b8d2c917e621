-- What more bytes make of the lines so far, and of the run.
use Rattle.std.proofs.Common.{◌≡◌, ℕ, ◌+◌, ◌<◌, ◌≤◌, inl, inr, List, [], ◌∷◌, ◌++◌, length, refl, sym, ap, ◌∙◌, subst, ⊎_elim, append_assoc, append-nil, arith, length-append, string_bytes, Result, Ok, Err}
use Rattle.std.specs.Prelude.{⊤}
use Rattle.std.specs.Str.Lines.{strip_carriage_return, lines}
use Rattle.lti_outside.specs.declared.limits.Limits.{Limits}
use Rattle.lti_machine.specs.declared.entry.Entry.{Entry}
use Rattle.nonce_window.specs.Window.{WindowValue}
use Rattle.lti_words.specs.Command.{CheckCommand}
use Rattle.lti_check.specs.Lines.{HasNoNewline}
use Rattle.lti_check.specs.Verdicts.{verdict_line, AnswersAll, AnswersBefore, AnswersFront}
use Rattle.lti_check.specs.Noting.{HoldsCalls}
use Rattle.lti_check.specs.SoFar.{IsSoFar, LedTo, LineTold, Feeds, Finishes, budget}
use Rattle.lti_check.specs.declared.answered_lines.AnsweredLines.{AnsweredLines}
use Rattle.lti_check.specs.declared.stop.Stop.{Stop}
use Rattle.lti_check.specs.declared.stop.Stop.TheVariants.{ReadFault, WriteFault, NoMemory, Refused}
use Rattle.lti_check.proofs.SoFarLemmas as so_far

module _ (command : CheckCommand) (limits : Limits) where
  pub IsSoFar-as : {read written written' held held' : List ℕ} {count count' : ℕ} {accepted accepted' : List Entry}
      → written ≡ written' → held ≡ held' → count ≡ count' → accepted ≡ accepted'
      → IsSoFar command limits read written held count accepted → IsSoFar command limits read written' held' count' accepted'
  IsSoFar-as {read = read} {written' = written'} {held = held} {held' = held'} {count = count} {count' = count'} {accepted = accepted} w h n a is =
      subst (λ (x : List Entry). IsSoFar command limits read written' held' count' x) a
      (subst (λ (x : ℕ). IsSoFar command limits read written' held' x accepted) n
      (subst (λ (x : List ℕ). IsSoFar command limits read written' x count accepted) h
      (subst (λ (x : List ℕ). IsSoFar command limits read x held count accepted) w is)))

  -- the same window, named otherwise
  pub window_as : (before after : WindowValue) (accepted : List Entry) → before ≡ after → HoldsCalls limits.window before accepted → HoldsCalls limits.window after accepted
  window_as before after accepted same holds = subst (λ (w : WindowValue). HoldsCalls limits.window w accepted) same holds

  Front-more : (at_end : Type 0) (read written s : List ℕ) → AnswersFront command limits ⊥ read written → AnswersFront command limits at_end (read ++ s) written
  Front-more at_end read written s front = record {
    whole = front.whole;
    rest = front.rest ++ s;
    missing = front.missing;
    accepted = front.accepted;
    cut = ap (λ r. r ++ s) front.cut ∙ append_assoc front.whole front.rest s;
    ends = ⊎_elim (λ ended. inl ended) (λ at. absurd at.1) front.ends;
    answered = front.answered;
  }

  Before-more : (read written s : List ℕ) → AnswersBefore command limits (λ _. ⊤) read written → AnswersBefore command limits (λ _. ⊤) (read ++ s) written
  Before-more read written s before = record {
    front = before.front;
    accepted = before.accepted;
    answered = before.answered;
    refused = λ more _.
        let found = before.refused (s ++ more) tt in
        (found.0, found.1, ap lines (append_assoc read s more) ∙ found.2, found.3);
  }

  -- bytes after a run that ended
  pub Feeds-stop : (before after : AnsweredLines) (bytes s : List ℕ) (stop : Stop) → Feeds command limits before bytes after (Err stop) → Feeds command limits before (bytes ++ s) after (Err stop)
  Feeds-stop before after bytes s ReadFault fed = absurd fed
  Feeds-stop before after bytes s WriteFault fed = absurd fed
  Feeds-stop before after bytes s NoMemory fed = λ read written led.
      subst (λ (r : List ℕ). AnswersFront command limits ⊥ r (written ++ string_bytes after.pending)) (append_assoc read bytes s) (Front-more ⊥ (read ++ bytes) _ s (fed read written led))
  Feeds-stop before after bytes s Refused fed = λ read written led.
      let told = fed read written led in (
        subst (λ (r : List ℕ). AnswersFront command limits ⊥ r (written ++ string_bytes after.pending)) (append_assoc read bytes s) (Front-more ⊥ (read ++ bytes) _ s told.0),
        subst (λ (r : List ℕ). AnswersBefore command limits (λ _. ⊤) r (written ++ string_bytes after.pending)) (append_assoc read bytes s) (Before-more (read ++ bytes) _ s told.1),
      )

  -- bytes, and then more
  pub Feeds-then : (a b c : AnsweredLines) (x y : List ℕ) (result : Result Unit Stop) → Feeds command limits a x b (Ok tt) → Feeds command limits b y c result → Feeds command limits a (x ++ y) c result
  Feeds-then a b c x y (Ok _) first second = λ read written led.
      let one = first read written led in
      let two = second (read ++ x) written one.0 in (
        subst (λ (r : List ℕ). LedTo command limits r written c) (append_assoc read x y) two.0,
        omega (arith, one.1, two.1, length-append x y),
      )
  Feeds-then a b c x y (Err ReadFault) first second = absurd second
  Feeds-then a b c x y (Err WriteFault) first second = absurd second
  Feeds-then a b c x y (Err NoMemory) first second = λ read written led.
      subst (λ (r : List ℕ). AnswersFront command limits ⊥ r (written ++ string_bytes c.pending)) (append_assoc read x y) (second (read ++ x) written (first read written led).0)
  Feeds-then a b c x y (Err Refused) first second = λ read written led.
      let two = second (read ++ x) written (first read written led).0 in (
        subst (λ (r : List ℕ). AnswersFront command limits ⊥ r (written ++ string_bytes c.pending)) (append_assoc read x y) two.0,
        subst (λ (r : List ℕ). AnswersBefore command limits (λ _. ⊤) r (written ++ string_bytes c.pending)) (append_assoc read x y) two.1,
      )

  -- no bytes
  pub Feeds-same : (a : AnsweredLines) → Feeds command limits a [] a (Ok tt)
  Feeds-same a = λ read written led. (subst (λ (r : List ℕ). LedTo command limits r written a) (sym (append-nil read)) led, omega arith)

  module _ (before mid after : AnsweredLines) (part : List ℕ) (none : HasNoNewline part) (pending : mid.pending ≡ before.pending) (count : mid.count ≡ before.count)
      (window : mid.window ≡ before.window) (held : mid.held.items ≡ []) where
    -- the line that is held and ends with this part and an LF was answered
    pub line_fed : (result : Result Unit Stop) → LineTold command limits mid (strip_carriage_return (before.held.items ++ part)) after result
        → Feeds command limits before (part ++ 10 ∷ []) after result
    line_fed (Ok _) told = λ read written led.
        let few : before.count < limits.calls = omega (arith, told.2) in
        let count_is : before.count + 1 ≡ after.count = ap (λ n. n + 1) (sym count) ∙ sym told.5 in
        let held_is : [] ≡ after.held.items = sym held ∙ ap (λ h. h.items) (sym told.6) in
        let judged = told.3 led.accepted (window_as before.window mid.window led.accepted (sym window) led.window) in (
          record {
            accepted = judged.0;
            window = judged.2;
            so_far = IsSoFar-as
                (append_assoc written (string_bytes before.pending) (verdict_line told.0) ∙ ap (λ p. written ++ p) (ap (λ p. string_bytes p ++ verdict_line told.0) (sym pending) ∙ sym told.4))
                held_is
                count_is
                refl
                (so_far.next command limits read (written ++ string_bytes before.pending) before.held.items before.count led.accepted led.so_far part none told.0 judged.0 told.1 few judged.1);
          },
          subst (λ (h : List ℕ). budget limits after.count h + length (part ++ 10 ∷ []) ≤ budget limits before.count before.held.items) held_is
              (subst (λ (n : ℕ). budget limits n [] + length (part ++ 10 ∷ []) ≤ budget limits before.count before.held.items) count_is
              (so_far.next_spent command limits read (written ++ string_bytes before.pending) before.held.items before.count led.accepted led.so_far part none told.1 few)),
        )
    line_fed (Err ReadFault) told = absurd told
    line_fed (Err WriteFault) told = absurd told
    line_fed (Err NoMemory) told = λ read written led.
        subst (λ (p : List ℕ). AnswersFront command limits ⊥ (read ++ (part ++ 10 ∷ [])) (written ++ p)) (sym (told ∙ ap (λ p. string_bytes p) pending))
        (so_far.front_of command limits read (written ++ string_bytes before.pending) before.held.items before.count led.accepted led.so_far ⊥ (part ++ 10 ∷ []))
    line_fed (Err Refused) told = λ read written led.
        let pending_is : string_bytes before.pending ≡ string_bytes after.pending = sym (told.0 ∙ ap (λ p. string_bytes p) pending) in (
          subst (λ (p : List ℕ). AnswersFront command limits ⊥ (read ++ (part ++ 10 ∷ [])) (written ++ p)) pending_is
              (so_far.front_of command limits read (written ++ string_bytes before.pending) before.held.items before.count led.accepted led.so_far ⊥ (part ++ 10 ∷ [])),
          subst (λ (p : List ℕ). AnswersBefore command limits (λ _. ⊤) (read ++ (part ++ 10 ∷ [])) (written ++ p)) pending_is
              (⊎_elim
              (λ all. so_far.too_many command limits read (written ++ string_bytes before.pending) before.held.items before.count led.accepted led.so_far (part ++ 10 ∷ []) (omega (arith, length-append part (10 ∷ []))) (omega (arith, all)))
              (λ long. so_far.line_long command limits read (written ++ string_bytes before.pending) before.held.items before.count led.accepted led.so_far part none long)
              told.1),
        )

  -- the last line, which is held, was answered
  pub line_finished : (before mid after : AnsweredLines) → mid.pending ≡ before.pending → mid.count ≡ before.count → mid.window ≡ before.window → 0 < length before.held.items
      → (result : Result Unit Stop) → LineTold command limits mid before.held.items after result → Finishes command limits before after result
  line_finished before mid after pending count window some (Ok _) told = λ read written led.
      let judged = told.3 led.accepted (window_as before.window mid.window led.accepted (sym window) led.window) in
      subst (λ (p : List ℕ). AnswersAll command limits read p)
      (append_assoc written (string_bytes before.pending) (verdict_line told.0) ∙ ap (λ p. written ++ p) (ap (λ p. string_bytes p ++ verdict_line told.0) (sym pending) ∙ sym told.4))
      (so_far.last command limits read (written ++ string_bytes before.pending) before.held.items before.count led.accepted led.so_far some told.0 judged.0 told.1 (omega (arith, told.2)) judged.1)
  line_finished before mid after pending count window some (Err ReadFault) told = absurd told
  line_finished before mid after pending count window some (Err WriteFault) told = absurd told
  line_finished before mid after pending count window some (Err NoMemory) told = λ read written led.
      subst (λ (p : List ℕ). AnswersFront command limits ⊤ read (written ++ p)) (sym (told ∙ ap (λ p. string_bytes p) pending))
      (subst (λ (r : List ℕ). AnswersFront command limits ⊤ r (written ++ string_bytes before.pending)) (append-nil read)
      (so_far.front_of command limits read (written ++ string_bytes before.pending) before.held.items before.count led.accepted led.so_far ⊤ []))
  line_finished before mid after pending count window some (Err Refused) told = λ read written led.
      let pending_is : string_bytes before.pending ≡ string_bytes after.pending = sym (told.0 ∙ ap (λ p. string_bytes p) pending) in (
        subst (λ (p : List ℕ). AnswersFront command limits ⊤ read (written ++ p)) pending_is
            (subst (λ (r : List ℕ). AnswersFront command limits ⊤ r (written ++ string_bytes before.pending)) (append-nil read)
            (so_far.front_of command limits read (written ++ string_bytes before.pending) before.held.items before.count led.accepted led.so_far ⊤ [])),
        subst (λ (p : List ℕ). AnswersBefore command limits (λ more. more ≡ []) read (written ++ p)) pending_is
            (so_far.last_refused command limits read (written ++ string_bytes before.pending) before.held.items before.count led.accepted led.so_far some
            (⊎_elim (λ all. inl (omega (arith, all))) (λ long. inr long) told.1)),
      )
