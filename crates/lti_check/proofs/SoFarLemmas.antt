-- The lines that were answered so far, and what more bytes and the end of the input make of them.
use Rattle.std.proofs.Common.{◌≡◌, ℕ, ◌+◌, ◌-◌, ◌<◌, ◌≤◌, ◌==◌, ◌⊎◌, false, ⊎_elim, List, [], ◌∷◌, ◌++◌, length, inl, inr, refl, sym, ap, ◌∙◌, subst, append_assoc, append-nil, arith, length-append}
use Rattle.std.specs.Prelude.{⊤}
use Rattle.std.specs.List.{flat_map}
use Rattle.std.specs.Str.Lines.{strip_carriage_return, lines}
use Rattle.std.proofs.lemmas.Grind.{flat_map-append}
use Rattle.std.proofs.lemmas.List.Elements.{All-append, All-nil}
use Rattle.lti_outside.specs.declared.limits.Limits.{Limits}
use Rattle.lti_machine.specs.declared.entry.Entry.{Entry}
use Rattle.lti_words.specs.Command.{CheckCommand}
use Rattle.lti_check.specs.Lines.{HasNoNewline}
use Rattle.lti_check.specs.Verdicts.{Judges, AreVerdicts, verdict_line, AreAnswered, IsRefused, AnswersAll, AnswersBefore, AnswersFront}
use Rattle.lti_check.specs.SoFar.{IsSoFar, budget}
use Rattle.lti_check.specs.declared.verdict.Verdict.{Verdict}
use Rattle.lti_check.proofs.LineLemmas.{lines_ended, lines_last, lines_long, lines_some, strip_length}

-- a byte that isn't LF
abbrev pub IsInLine : ℕ → Type 0
IsInLine b = (b == 10) ≡ false

-- there is a line where a byte is
lines_any : (bytes : List ℕ) → 0 < length bytes → (line : List ℕ) × (rest : List (List ℕ)) × (lines bytes ≡ line ∷ rest)
lines_any [] some = absurd (omega arith)
lines_any (b ∷ bytes) some = lines_some b bytes

module _ (command : CheckCommand) (limits : Limits) where
  AreVerdicts-push : (ls : List (List ℕ)) (vs : List Verdict) (line : List ℕ) (v : Verdict) (first before later : List Entry)
      → AreVerdicts command limits first ls vs before → length line ≤ limits.body → Judges command limits before line v later
      → AreVerdicts command limits first (ls ++ line ∷ []) (vs ++ v ∷ []) later
  AreVerdicts-push [] [] line v first before later are short is =
      (short, later, subst (λ (es : List Entry). Judges command limits es line v later) are is, refl)
  AreVerdicts-push [] (w ∷ vs) line v first before later are short is = absurd are
  AreVerdicts-push (l ∷ ls) [] line v first before later are short is = absurd are
  AreVerdicts-push (l ∷ ls) (w ∷ vs) line v first before later are short is =
      (are.0, are.1, are.2, AreVerdicts-push ls vs line v are.1 before later are.3 short is)

  -- one more line
  AreAnswered-push : (ls : List (List ℕ)) (line written : List ℕ) (v : Verdict) (before later : List Entry)
      → AreAnswered command limits ls written before → length line ≤ limits.body → Judges command limits before line v later
      → AreAnswered command limits (ls ++ line ∷ []) (written ++ verdict_line v) later
  AreAnswered-push ls line written v before later answered short is = record {
    verdicts = answered.verdicts ++ v ∷ [];
    are = AreVerdicts-push ls answered.verdicts line v [] before later answered.are short is;
    is = ap (λ x. x ++ verdict_line v) answered.is ∙ ap (λ x. flat_map verdict_line answered.verdicts ++ x) (sym (append-nil (verdict_line v)))
        ∙ sym (flat_map-append verdict_line answered.verdicts (v ∷ []));
  }

  -- nothing was read yet
  pub start : IsSoFar command limits [] [] [] 0 []
  start = record {
    whole = [];
    cut = refl;
    ended = inl refl;
    answered = record { verdicts = []; are = refl; is = refl };
    counted = refl;
    parted = λ more. refl;
    begun = All-nil IsInLine;
    short = omega arith;
    few = omega arith;
  }

  module _ (read written held : List ℕ) (count : ℕ) (accepted : List Entry) (so_far : IsSoFar command limits read written held count accepted) where
    -- with more that was read
    cut_more : (s : List ℕ) → read ++ s ≡ so_far.whole ++ (held ++ s)
    cut_more s = ap (λ r. r ++ s) so_far.cut ∙ append_assoc so_far.whole held s

    lines_more : (s : List ℕ) → lines (read ++ s) ≡ lines so_far.whole ++ lines (held ++ s)
    lines_more s = ap lines (cut_more s) ∙ so_far.parted (held ++ s)

    -- whatever was read since, the lines that were answered were read whole
    pub front_of : (at_end : Type 0) (s : List ℕ) → AnswersFront command limits at_end (read ++ s) written
    front_of at_end s = record {
      whole = so_far.whole;
      rest = held ++ s;
      missing = [];
      accepted = accepted;
      cut = cut_more s;
      ends = inl so_far.ended;
      answered = subst (λ (w : List ℕ). AreAnswered command limits (lines so_far.whole) w accepted) (sym (append-nil written)) so_far.answered;
    }

    -- more of a line is held
    pub hold : (part : List ℕ) → HasNoNewline part → length held + length part ≤ limits.body + 1 → IsSoFar command limits (read ++ part) written (held ++ part) count accepted
    hold part none short = record {
      whole = so_far.whole;
      cut = cut_more part;
      ended = so_far.ended;
      answered = so_far.answered;
      counted = so_far.counted;
      parted = so_far.parted;
      begun = All-append IsInLine held part so_far.begun none;
      short = omega (arith, length-append held part);
      few = so_far.few;
    }

    -- a line ended at LF, and has a verdict
    module _ (part : List ℕ) (none : HasNoNewline part) where
      raw_begun : HasNoNewline (held ++ part)
      raw_begun = All-append IsInLine held part so_far.begun none

      abbrev next_whole : List ℕ
      next_whole = so_far.whole ++ ((held ++ part) ++ 10 ∷ [])

      next_cut : read ++ (part ++ 10 ∷ []) ≡ next_whole ++ []
      next_cut = cut_more (part ++ 10 ∷ []) ∙ ap (λ y. so_far.whole ++ y) (sym (append_assoc held part (10 ∷ []))) ∙ sym (append-nil next_whole)

      next_lines : lines next_whole ≡ lines so_far.whole ++ strip_carriage_return (held ++ part) ∷ []
      next_lines = so_far.parted ((held ++ part) ++ 10 ∷ []) ∙ ap (λ ls. lines so_far.whole ++ ls) (lines_ended (held ++ part) [] raw_begun)

      next_parted : (more : List ℕ) → lines (next_whole ++ more) ≡ lines next_whole ++ lines more
      next_parted more =
          ap lines (append_assoc so_far.whole ((held ++ part) ++ 10 ∷ []) more ∙ ap (λ y. so_far.whole ++ y) (append_assoc (held ++ part) (10 ∷ []) more))
          ∙ so_far.parted ((held ++ part) ++ 10 ∷ more)
          ∙ ap (λ ls. lines so_far.whole ++ ls) (lines_ended (held ++ part) more raw_begun)
          ∙ sym (append_assoc (lines so_far.whole) (strip_carriage_return (held ++ part) ∷ []) (lines more))
          ∙ ap (λ ls. ls ++ lines more) (sym next_lines)

      pub next : (v : Verdict) (later : List Entry) → length (strip_carriage_return (held ++ part)) ≤ limits.body → count < limits.calls
          → Judges command limits accepted (strip_carriage_return (held ++ part)) v later
          → IsSoFar command limits (read ++ (part ++ 10 ∷ [])) (written ++ verdict_line v) [] (count + 1) later
      next v later short few is = record {
        whole = next_whole;
        cut = next_cut;
        ended = inr (so_far.whole ++ (held ++ part), sym (append_assoc so_far.whole (held ++ part) (10 ∷ [])));
        answered = subst (λ (ls : List (List ℕ)). AreAnswered command limits ls (written ++ verdict_line v) later) (sym next_lines)
            (AreAnswered-push (lines so_far.whole) (strip_carriage_return (held ++ part)) written v accepted later so_far.answered short is);
        counted = ap length next_lines ∙ length-append (lines so_far.whole) (strip_carriage_return (held ++ part) ∷ []) ∙ ap (λ n. n + 1) so_far.counted;
        parted = next_parted;
        begun = All-nil IsInLine;
        short = omega arith;
        few = omega arith;
      }

      -- the budget for bytes falls by their number
      pub next_spent : length (strip_carriage_return (held ++ part)) ≤ limits.body → count < limits.calls
          → budget limits (count + 1) [] + length (part ++ 10 ∷ []) ≤ budget limits count held
      unfolding budget
      next_spent short few =
          let raw : length held + length part ≤ limits.body + 1 = omega (arith, strip_length (held ++ part), length-append held part) in
          let one_less : limits.calls - count ≡ (limits.calls - (count + 1)) + 1 = omega arith in
          rw one_less (omega (arith, length-append part (10 ∷ [])))

    before_of : (left : List ℕ → Type 0) (s : List ℕ)
        → ((more : List ℕ) → left more → (line : List ℕ) × (rest : List (List ℕ)) × (lines (held ++ (s ++ more)) ≡ line ∷ rest) × IsRefused limits count line)
        → AnswersBefore command limits left (read ++ s) written
    before_of left s refused = record {
      front = lines so_far.whole;
      accepted = accepted;
      answered = so_far.answered;
      refused = λ more is_left.
          let found = refused more is_left in (
            found.0,
            found.1,
            ap lines (append_assoc read s more) ∙ lines_more (s ++ more) ∙ ap (λ ls. lines so_far.whole ++ ls) found.2,
            subst (λ (n : ℕ). IsRefused limits n found.0) (sym so_far.counted) found.3,
          );
    }

    -- more bytes, where as many lines have a verdict as are allowed
    pub too_many : (s : List ℕ) → 0 < length s → limits.calls ≤ count → AnswersBefore command limits (λ _. ⊤) (read ++ s) written
    too_many s some all =
        before_of (λ _. ⊤) s
        (λ more _.
        let found = lines_any (held ++ (s ++ more)) (omega (arith, length-append held (s ++ more), length-append s more)) in
        (found.0, found.1, found.2, inl (omega (arith, so_far.few))))

    -- more bytes without LF than a line may have
    pub too_long : (part : List ℕ) → HasNoNewline part → limits.body + 1 < length held + length part → AnswersBefore command limits (λ _. ⊤) (read ++ part) written
    too_long part none long =
        before_of (λ _. ⊤) part
        (λ more _.
        let found = lines_long limits.body more (held ++ part) (raw_begun part none) (omega (arith, length-append held part)) in
        (found.0, found.1, ap lines (sym (append_assoc held part more)) ∙ found.2, inr found.3))

    -- a line that ended at LF and has too many bytes
    pub line_long : (part : List ℕ) → HasNoNewline part → limits.body < length (strip_carriage_return (held ++ part))
        → AnswersBefore command limits (λ _. ⊤) (read ++ (part ++ 10 ∷ [])) written
    line_long part none long =
        before_of (λ _. ⊤) (part ++ 10 ∷ [])
        (λ more _. (
          strip_carriage_return (held ++ part),
          lines more,
          ap lines (ap (λ y. held ++ y) (append_assoc part (10 ∷ []) more) ∙ sym (append_assoc held part (10 ∷ more))) ∙ lines_ended (held ++ part) more (raw_begun part none),
          inr long,
        ))

    pub hold_spent : (part : List ℕ) → length held + length part ≤ limits.body + 1 → budget limits count (held ++ part) + length part ≤ budget limits count held
    unfolding budget
    hold_spent part short = omega (arith, length-append held part)

    -- the input ended between lines
    pub all_of : held ≡ [] → AnswersAll command limits read written
    all_of none =
        let is_whole : read ≡ so_far.whole = so_far.cut ∙ ap (λ h. so_far.whole ++ h) none ∙ append-nil so_far.whole in
        record {
          few = subst (λ (x : List ℕ). length (lines x) ≤ limits.calls) (sym is_whole) (omega (arith, so_far.counted, so_far.few));
          accepted = accepted;
          answered = subst (λ (x : List ℕ). AreAnswered command limits (lines x) written accepted) (sym is_whole) so_far.answered;
        }

    -- the input ended inside a line
    module _ (some : 0 < length held) where
      last_lines : lines read ≡ lines so_far.whole ++ held ∷ []
      last_lines = ap lines so_far.cut ∙ so_far.parted held ∙ ap (λ ls. lines so_far.whole ++ ls) (lines_last held so_far.begun some)

      pub last : (v : Verdict) (later : List Entry) → length held ≤ limits.body → count < limits.calls → Judges command limits accepted held v later
          → AnswersAll command limits read (written ++ verdict_line v)
      last v later short few is = record {
        few = omega (arith, ap length last_lines, length-append (lines so_far.whole) (held ∷ []), so_far.counted);
        accepted = later;
        answered = subst (λ (ls : List (List ℕ)). AreAnswered command limits ls (written ++ verdict_line v) later) (sym last_lines)
            (AreAnswered-push (lines so_far.whole) held written v accepted later so_far.answered short is);
      }

      pub last_refused : (limits.calls ≤ count) ⊎ (limits.body < length held) → AnswersBefore command limits (λ more. more ≡ []) read written
      last_refused which = record {
        front = lines so_far.whole;
        accepted = accepted;
        answered = so_far.answered;
        refused = λ more none. (
          held,
          [],
          ap (λ m. lines (read ++ m)) none ∙ ap lines (append-nil read) ∙ last_lines,
          subst (λ (n : ℕ). IsRefused limits n held) (sym so_far.counted) (⊎_elim (λ all. inl (omega (arith, so_far.few))) (λ long. inr long) which),
        );
      }
