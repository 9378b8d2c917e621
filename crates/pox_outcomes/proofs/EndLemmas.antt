-- Documents with white bytes behind them.
use Rattle.std.proofs.Common.{◌≡◌, ℕ, ◌-◌, ◌≤◌, ⊎_elim, true, false, ◌==◌, List, [], ◌∷◌, ◌++◌, length, take, drop, append_assoc, append-nil, refl, sym, ap, ◌∙◌, subst, arith, length-append}
use Rattle.std.proofs.lemmas.List.{take_at, take-append-drop, length-take-le, length-drop}
use Rattle.std.proofs.lemmas.Bool.{false≢true}
use Rattle.std.proofs.lemmas.Bool.Decides.{nat_tests}
use Rattle.pox_outcomes.specs.Language.{StopsAt, Reads, Any, IsOnce}
use Rattle.pox_outcomes.specs.Markup.{is_white, IsWhite}
use Rattle.pox_outcomes.specs.Document.{DocumentOf}
use Rattle.pox_outcomes.specs.BadAt.{IsBadAt}
use Rattle.pox_outcomes.proofs.LanguageLemmas.{compare}
use Rattle.pox_outcomes.proofs.RunLemmas.{Front, run_no}
use Rattle.pox_outcomes.proofs.SequenceLemmas.{behind_same}

-- the white bytes of one run can't hold the first byte behind another
not_white : (white : List ℕ) (b : ℕ) (t more back : List ℕ) → is_white b ≡ false → IsWhite back → (white ++ b ∷ t) ++ more ≡ back → ⊥
not_white white b t more back dark is e =
    run_no is_white white b (t ++ more) (subst IsWhite (sym (sym (append_assoc white (b ∷ t) more) ∙ e)) is) dark

-- The strings of the family are documents of its values, and bytes begin with one of one value at most.
module _ {V : Type 0} (D : V → List ℕ → Type 0) (once : IsOnce D) where
  abbrev Of : List ℕ → V → Type 0
  Of = DocumentOf D

  pub document_once : (bytes : List ℕ) (o p : V) → Of bytes o → Of bytes p → o ≡ p
  document_once bytes o p a b = (once o p a.front b.front a.back b.back a.first b.first (sym a.are ∙ b.are)).0

  pub bad_document : (bytes : List ℕ) (left at : ℕ) → at ≡ length bytes - left → StopsAt (Any D) bytes left → IsBadAt Of bytes at
  bad_document bytes left at at_is s =
      let long = ap length s.are ∙ length-append s.front s.rest in
      let left_is = s.left_is in
      let count : length s.front ≡ at = omega (arith, long, left_is, at_is) in
      record {
        none = λ o d. (s.apart d.front [] d.back (o, subst (D o) (sym (append-nil d.front)) d.first) d.are).1 refl;
        within = omega (arith, long, left_is, at_is);
        begins = (
          s.begins.0,
          s.begins.1.0,
          record { front = s.front ++ s.begins.0; back = []; are = ap (λ t. t ++ s.begins.0) (ap (take at) s.are ∙ take_at s.front s.rest at count) ∙ sym (append-nil (s.front ++ s.begins.0)); first = s.begins.1.1; second = refl },
        );
        longest = λ n within b. no_longer n within b.0 b.1 b.2;
      } where
        no_longer : (n : ℕ) → n ≤ length bytes → (more : List ℕ) (o : V) → Of (take n bytes ++ more) o → n ≤ at
        no_longer n within more o d =
            let whole : bytes ≡ take n bytes ++ drop n bytes = sym (take-append-drop n bytes) in
            ⊎_elim
            (λ h.
            let there : bytes ≡ d.front ++ (h.0 ++ drop n bytes) = whole ∙ ap (λ t. t ++ drop n bytes) h.1 ∙ append_assoc d.front h.0 (drop n bytes) in
            absurd ((s.apart d.front [] (h.0 ++ drop n bytes) (o, subst (D o) (sym (append-nil d.front)) d.first) there).1 refl))
            (λ h.
            let far = s.apart (take n bytes) (h.0 ∷ h.1) (drop n bytes) (o, subst (D o) h.2 d.first) whole in
            let least = far.0 in
            let rest = length-drop n bytes in
            omega (arith, least, rest, at_is, within))
            (compare (take n bytes) d.front more d.back d.are)

  bad_end : (bytes rest white : List ℕ) (b : ℕ) (t : List ℕ) (o : V) (at : ℕ) → Reads (D o) bytes rest → rest ≡ white ++ b ∷ t → IsWhite white → is_white b ≡ false → at ≡ length bytes - length (b ∷ t) → IsBadAt Of bytes at
  bad_end bytes rest white b t o at reads are is dark at_is =
      let whole : bytes ≡ (reads.front ++ white) ++ b ∷ t = reads.are ∙ ap (λ k. reads.front ++ k) are ∙ sym (append_assoc reads.front white (b ∷ t)) in
      let long = ap length whole ∙ length-append (reads.front ++ white) (b ∷ t) in
      let count : length (reads.front ++ white) ≡ at = omega (arith, long, at_is) in
      record {
        none = λ p d.
            let same = once o p reads.front d.front rest d.back reads.is d.first (sym reads.are ∙ d.are) in
            let behind = behind_same reads.front d.front rest d.back same.1 (sym reads.are ∙ d.are) in
            not_white white b t [] d.back dark d.second (append-nil (white ++ b ∷ t) ∙ sym are ∙ behind);
        within = omega (arith, long, at_is);
        begins = ([], o, record { front = reads.front; back = white; are = append-nil (take at bytes) ∙ ap (take at) whole ∙ take_at (reads.front ++ white) (b ∷ t) at count; first = reads.is; second = is });
        longest = λ n within d. no_longer n within d.0 d.1 d.2;
      } where
        no_longer : (n : ℕ) → n ≤ length bytes → (more : List ℕ) (p : V) → Of (take n bytes ++ more) p → n ≤ at
        no_longer n within more p d =
            let whole : bytes ≡ (reads.front ++ white) ++ b ∷ t = reads.are ∙ ap (λ k. reads.front ++ k) are ∙ sym (append_assoc reads.front white (b ∷ t)) in
            let long = ap length whole ∙ length-append (reads.front ++ white) (b ∷ t) in
            let split : take n bytes ++ drop n bytes ≡ (reads.front ++ white) ++ b ∷ t = take-append-drop n bytes ∙ whole in
            let taken = length-take-le n bytes within in
            ⊎_elim
            (λ h. longer h.0 h.1 h.2)
            (λ h.
            let more_long = ap length h.2 ∙ length-append (take n bytes) (h.0 ∷ h.1) in
            omega (arith, more_long, long, at_is, taken))
            (compare (take n bytes) (reads.front ++ white) (drop n bytes) (b ∷ t) split)
          where
            longer : (m : List ℕ) → take n bytes ≡ (reads.front ++ white) ++ m → b ∷ t ≡ m ++ drop n bytes → n ≤ at
            longer [] a e =
                let whole : bytes ≡ (reads.front ++ white) ++ b ∷ t = reads.are ∙ ap (λ k. reads.front ++ k) are ∙ sym (append_assoc reads.front white (b ∷ t)) in
                let long = ap length whole ∙ length-append (reads.front ++ white) (b ∷ t) in
                let taken = length-take-le n bytes within in
                let short = ap length (a ∙ append-nil (reads.front ++ white)) in
                omega (arith, long, at_is, taken, short)
            longer (c ∷ m) a e =
                let head : b ≡ c = cc in
                let all : reads.front ++ (white ++ (c ∷ m ++ more)) ≡ d.front ++ d.back =
                sym (append_assoc reads.front white (c ∷ m ++ more)) ∙ sym (append_assoc (reads.front ++ white) (c ∷ m) more) ∙ ap (λ k. k ++ more) (sym a) ∙ d.are in
                let same = once o p reads.front d.front (white ++ (c ∷ m ++ more)) d.back reads.is d.first all in
                let behind = behind_same reads.front d.front (white ++ (c ∷ m ++ more)) d.back same.1 all in
                let dark_too : is_white c ≡ false = ap is_white (sym head) ∙ dark in
                absurd (not_white white c m more d.back dark_too d.second (append_assoc white (c ∷ m) more ∙ behind))

  pub bad_rest : {bytes rest dark : List ℕ} (o : V) (at : ℕ) → Reads (D o) bytes rest → Front is_white rest dark → (length dark == 0) ≡ false → at ≡ length bytes - length dark → IsBadAt Of bytes at
  bad_rest {dark = []} o at reads w long at_is = absurd (false≢true (sym long))
  bad_rest {bytes = bytes} {rest = rest} {dark = b ∷ t} o at reads w long at_is = bad_end bytes rest w.run b t o at reads w.are w.is w.outside at_is

  pub good_rest : {bytes rest dark : List ℕ} (o : V) → Reads (D o) bytes rest → Front is_white rest dark → (length dark == 0) ≡ true → Of bytes o
  good_rest {rest = rest} {dark = []} o reads w none = record { front = reads.front; back = rest; are = reads.are; first = reads.is; second = subst IsWhite (sym (w.are ∙ append-nil w.run)) w.is }
  good_rest {dark = b ∷ t} o reads w none =
      let long : (length (b ∷ t) == 0) ≡ false = grind (arith, nat_tests) in
      absurd (false≢true (sym long ∙ none))

  pub rest_le : {bytes rest dark : List ℕ} (o : V) → Reads (D o) bytes rest → Front is_white rest dark → length dark ≤ length bytes
  rest_le {rest = rest} {dark = dark} o reads w =
      let one = ap length reads.are ∙ length-append reads.front rest in
      let two = ap length w.are ∙ length-append w.run dark in
      omega (arith, one, two)
