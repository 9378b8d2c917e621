-- The lines of bytes that begin with a line.
use Rattle.std.proofs.Common.{◌≡◌, ℕ, ◌+◌, ◌-◌, ◌<◌, ◌≤◌, ◌==◌, true, false, List, [], ◌∷◌, ◌++◌, length, get_or, take, drop, refl, sym, ap, ◌∙◌, ⊎_elim, append_assoc, append-nil, arith, length-append, length-take}
use Rattle.std.specs.Str.Lines.{strip_carriage_return, lines_of_parts, lines}
use Rattle.std.specs.List.{slice_split}
use Rattle.std.proofs.lemmas.Bool.{cond-false, cond_both, cases_Bool}
use Rattle.std.proofs.lemmas.Grind.{common_steps}
use Rattle.std.proofs.lemmas.List.Splits.{slice_split_at, slice_split_none, length-slice_split}
use Rattle.std.proofs.lemmas.List.{drop_more, take-append-drop}
use Rattle.std.proofs.lemmas.List.Elements.{All-push, All-nil}
use Rattle.lti_check.specs.Lines.{HasNoNewline}

parts_cons : (part : List ℕ) (parts : List (List ℕ)) → 0 < length parts → lines_of_parts (part ∷ parts) ≡ strip_carriage_return part ∷ lines_of_parts parts
parts_cons part [] some = absurd (omega arith)
parts_cons part (next ∷ parts) some = refl

-- a line that ends at LF, and the others
pub lines_ended : (raw more : List ℕ) → HasNoNewline raw → lines (raw ++ 10 ∷ more) ≡ strip_carriage_return raw ∷ lines more
lines_ended raw more none =
    ap lines_of_parts (slice_split_at (λ (b : ℕ). b == 10) raw 10 more none refl)
    ∙ parts_cons raw (slice_split (λ (b : ℕ). b == 10) more) (omega (arith, length-slice_split (λ (b : ℕ). b == 10) more))

one_part : (raw : List ℕ) → 0 < length raw → lines_of_parts (raw ∷ []) ≡ raw ∷ []
one_part raw some = cond-false (length raw == 0) [] (raw ∷ []) (grind (arith, common_steps))

-- a last line without LF
pub lines_last : (raw : List ℕ) → HasNoNewline raw → 0 < length raw → lines raw ≡ raw ∷ []
lines_last [] none some = absurd (omega arith)
lines_last (b ∷ bs) none some = ap lines_of_parts (slice_split_none (λ (b : ℕ). b == 10) (b ∷ bs) none) ∙ one_part (b ∷ bs) some

pub lines_none : lines [] ≡ []
lines_none = refl

-- losing a CR costs one byte at most
pub strip_length : (raw : List ℕ) → length raw ≤ length (strip_carriage_return raw) + 1
strip_length raw =
    cond_both (get_or raw (length raw - 1) 0 == 13) (take (length raw - 1) raw) raw (λ xs. length raw ≤ length xs + 1)
    (λ _. omega (arith, length-take (length raw - 1) raw)) (λ _. omega arith)

HasNoNewline-push : (raw : List ℕ) (b : ℕ) → HasNoNewline raw → (b == 10) ≡ false → HasNoNewline (raw ++ b ∷ [])
HasNoNewline-push raw b none other = All-push (λ (c : ℕ). (c == 10) ≡ false) raw b none other

is_ten : (b : ℕ) → (b == 10) ≡ true → b ≡ 10
is_ten b test = grind (arith, common_steps)

-- the first line of bytes that begin with so many without LF is as long
pub lines_long : (n : ℕ) (more raw : List ℕ) → HasNoNewline raw → n + 1 < length raw
    → (line : List ℕ) × (rest : List (List ℕ)) × (lines (raw ++ more) ≡ line ∷ rest) × (n < length line)
lines_long n [] raw none long = (raw, [], ap lines (append-nil raw) ∙ lines_last raw none (omega arith), omega arith)
lines_long n (b ∷ more) raw none long =
    ⊎_elim
    (λ newline. (strip_carriage_return raw, lines more, ap (λ c. lines (raw ++ c ∷ more)) (is_ten b newline) ∙ lines_ended raw more none, omega (arith, strip_length raw)))
    (λ other.
    let later = lines_long n more (raw ++ b ∷ []) (HasNoNewline-push raw b none other) (omega (arith, length-append raw (b ∷ []))) in
    (later.0, later.1, ap lines (sym (append_assoc raw (b ∷ []) more)) ∙ later.2, later.3))
    (cases_Bool (b == 10))

-- there is a line where a byte is
lines_begun : (more raw : List ℕ) → HasNoNewline raw → 0 < length raw → (line : List ℕ) × (rest : List (List ℕ)) × (lines (raw ++ more) ≡ line ∷ rest)
lines_begun [] raw none some = (raw, [], ap lines (append-nil raw) ∙ lines_last raw none some)
lines_begun (b ∷ more) raw none some =
    ⊎_elim
    (λ newline. (strip_carriage_return raw, lines more, ap (λ c. lines (raw ++ c ∷ more)) (is_ten b newline) ∙ lines_ended raw more none))
    (λ other.
    let later = lines_begun more (raw ++ b ∷ []) (HasNoNewline-push raw b none other) (omega (arith, length-append raw (b ∷ []))) in
    (later.0, later.1, ap lines (sym (append_assoc raw (b ∷ []) more)) ∙ later.2))
    (cases_Bool (b == 10))

pub lines_some : (b : ℕ) (more : List ℕ) → (line : List ℕ) × (rest : List (List ℕ)) × (lines (b ∷ more) ≡ line ∷ rest)
lines_some b more =
    ⊎_elim
    (λ newline. (strip_carriage_return [], lines more, ap (λ c. lines (c ∷ more)) (is_ten b newline) ∙ lines_ended [] more (All-nil (λ (c : ℕ). (c == 10) ≡ false))))
    (λ other. lines_begun more (b ∷ []) (HasNoNewline-push [] b (All-nil (λ (c : ℕ). (c == 10) ≡ false)) other) (omega arith))
    (cases_Bool (b == 10))

-- bytes are cut behind an LF
pub cut_behind : (bytes : List ℕ) (end : ℕ) → end < length bytes → get_or bytes end 0 ≡ 10 → bytes ≡ (take end bytes ++ 10 ∷ []) ++ drop (end + 1) bytes
cut_behind bytes end within newline =
    sym (take-append-drop end bytes) ∙ ap (λ x. take end bytes ++ x) (drop_more bytes end 0 within ∙ ap (λ b. b ∷ drop (end + 1) bytes) newline)
    ∙ sym (append_assoc (take end bytes) (10 ∷ []) (drop (end + 1) bytes))
