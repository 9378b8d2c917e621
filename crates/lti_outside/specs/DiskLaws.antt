-- The laws of a disk hold of a disk in memory, whatever its calls.
use Rattle.std.proofs.Common.{◌≡◌, inl, inr, ℕ, ◌+◌, ◌-◌, ◌≤◌, min, true, false, List, [], ◌∷◌, ◌++◌, length, take, drop, refl, sym, ◌∙◌, ap, subst, arith, length-append, length-take, length-drop, append_assoc}
use Rattle.std.proofs.lemmas.List.{take_all, take_at, append-nil, drop_all, drop_at, take-take}
use Rattle.std.proofs.lemmas.Bool.{cases_lt}
use Rattle.lti_outside.specs.Disk.{Torn, Holds}
use Rattle.lti_outside.specs.DiskLog.{Log, pushed, State, put, after, run, settled, state_of, Reached, IsImage, LeftSince}
use Rattle.lti_outside.specs.declared.disk_call.DiskCall.{DiskCall}
use Rattle.lti_outside.specs.declared.disk_call.DiskCall.TheVariants.{Read, Write, Sync}

pub length-put : (old : List ℕ) (place : ℕ) (bytes : List ℕ) → length (put old place bytes) ≡ length old
length-put old place bytes = simp (length-append, length-take, length-drop) (omega arith)

front_length : (old : List ℕ) (place : ℕ) → length (take place old) ≡ min place (length old)
front_length old place = length-take place old

put-before : (old : List ℕ) (place : ℕ) (bytes : List ℕ) → take place (put old place bytes) ≡ take place old
put-before old place bytes = elim (cases_lt (length old) place) [
  | inr within ↦
      ap (λ (l : List ℕ). take place l) (append_assoc (take place old) (take (length old - place) bytes) (drop (place + length bytes) old))
      ∙ take_at (take place old) (take (length old - place) bytes ++ drop (place + length bytes) old) place (omega (arith, length-take place old))
  | inl past ↦
      let none : length old - place ≡ 0 = omega arith in
      let gone : drop (place + length bytes) old ≡ [] = drop_all (place + length bytes) old (omega arith) in
      ap (λ (n : ℕ). take place (take place old ++ take n bytes ++ drop (place + length bytes) old)) none
      ∙ ap (λ (l : List ℕ). take place (take place old ++ [] ++ l)) gone
      ∙ ap (λ (l : List ℕ). take place (l ++ [])) (append-nil (take place old))
      ∙ ap (λ (l : List ℕ). take place l) (append-nil (take place old))
      ∙ take-take place place old (omega arith)
]

put-after : (old : List ℕ) (place : ℕ) (bytes : List ℕ) → drop (place + length bytes) (put old place bytes) ≡ drop (place + length bytes) old
put-after old place bytes = elim (cases_lt (length old) (place + length bytes)) [
  | inr within ↦
      let whole : take (length old - place) bytes ≡ bytes = take_all (length old - place) bytes (omega arith) in
      ap (λ (l : List ℕ). drop (place + length bytes) (take place old ++ l ++ drop (place + length bytes) old)) whole
      ∙ drop_at (take place old ++ bytes) (drop (place + length bytes) old) (place + length bytes) (omega (arith, length-append (take place old) bytes, length-take place old))
  | inl past ↦
      drop_all (place + length bytes) (put old place bytes) (omega (arith, length-put old place bytes))
      ∙ sym (drop_all (place + length bytes) old (omega arith))
]

pub put-torn : (old : List ℕ) (place : ℕ) (bytes : List ℕ) → Torn place (length bytes) old (put old place bytes)
put-torn old place bytes = record { before = put-before old place bytes; after = put-after old place bytes; size = length-put old place bytes }

pub put-holds : (old : List ℕ) (place : ℕ) (bytes : List ℕ) → place + length bytes ≤ length old → Holds old place bytes (put old place bytes)
put-holds old place bytes fits =
    let whole : take (length old - place) bytes ≡ bytes = take_all (length old - place) bytes (omega arith) in
    ap (λ (l : List ℕ). take place old ++ l ++ drop (place + length bytes) old) whole

pub Reached-push : (spans : List (ℕ × ℕ)) (place n : ℕ) (old mid new : List ℕ) → Reached spans old mid → Torn place n mid new → Reached (spans ++ (place, n) ∷ []) old new
Reached-push [] place n old mid new is torn = (new, subst (λ (l : List ℕ). Torn place n l new) is torn, refl)
Reached-push (span ∷ spans) place n old mid new reached torn = (reached.0, reached.1, Reached-push spans place n reached.0 mid new reached.2 torn)

pub Reached-pop : (spans : List (ℕ × ℕ)) (place n : ℕ) (old new : List ℕ) → Reached (spans ++ (place, n) ∷ []) old new → (mid : List ℕ) × Reached spans old mid × Torn place n mid new
Reached-pop [] place n old new reached = (old, refl, subst (λ (l : List ℕ). Torn place n old l) (sym reached.2) reached.1)
Reached-pop (span ∷ spans) place n old new reached =
    let rest = Reached-pop spans place n reached.0 new reached.2 in
    (rest.0, (reached.0, reached.1, rest.1), rest.2)

pub length-reached : (spans : List (ℕ × ℕ)) (old new : List ℕ) → Reached spans old new → length new ≡ length old
length-reached [] old new is = ap length is
length-reached (span ∷ spans) old new reached = length-reached spans reached.0 new reached.2 ∙ reached.1.size

pub run-push : (s : State) (calls : List DiskCall) (call : DiskCall) → run s (calls ++ call ∷ []) ≡ after (run s calls) call
run-push s [] call = refl
run-push s (c ∷ calls) call = run-push (after s c) calls call

-- the bytes as reads give them are one of the images
after-current : (s : State) (call : DiskCall) → IsImage s s.reads → IsImage (after s call) (after s call).reads
after-current s (Read place len) is = is
after-current s (Write place piece) is = Reached-push s.spans place (length piece.list) s.synced s.reads (put s.reads place piece.list) is (put-torn s.reads place piece.list)
after-current s (Sync true) is = refl
after-current s (Sync false) is = is

run-current : (s : State) (calls : List DiskCall) → IsImage s s.reads → IsImage (run s calls) (run s calls).reads
run-current s [] is = is
run-current s (call ∷ calls) is = run-current (after s call) calls (after-current s call is)

pub reads_are_image : (log : Log) → IsImage (state_of log) (state_of log).reads
reads_are_image log = run-current (settled log.first) log.calls refl

pub image_size : (log : Log) (image : List ℕ) → IsImage (state_of log) image → length image ≡ length (state_of log).reads
image_size log image is =
    let s = state_of log in
    length-reached s.spans s.synced image is ∙ sym (length-reached s.spans s.synced s.reads (reads_are_image log))

after-size : (s : State) (call : DiskCall) → length (after s call).reads ≡ length s.reads
after-size s (Read place len) = refl
after-size s (Write place piece) = length-put s.reads place piece.list
after-size s (Sync true) = refl
after-size s (Sync false) = refl

run-size : (s : State) (calls : List DiskCall) → length (run s calls).reads ≡ length s.reads
run-size s [] = refl
run-size s (call ∷ calls) = run-size (after s call) calls ∙ after-size s call

pub reads_size : (log : Log) → length (state_of log).reads ≡ length log.first
reads_size log = run-size (settled log.first) log.calls

-- the log as it was after its first calls
abbrev pub cut : Log → List DiskCall → Log
cut log calls = record { first = log.first; calls = calls }

-- this moment is one of those since an earlier one
pub left_now : (log : Log) (t : ℕ) (image : List ℕ) → t ≤ length log.calls → IsImage (state_of log) image → LeftSince log t image
left_now log t image le is =
    let same : take (length log.calls) log.calls ≡ log.calls = take_all (length log.calls) log.calls (omega arith) in
    (length log.calls, le, omega arith, subst (λ (l : List DiskCall). IsImage (state_of (cut log l)) image) (sym same) is)

-- since this moment there is no other
pub only_left_now : (log : Log) (image : List ℕ) → LeftSince log (length log.calls) image → IsImage (state_of log) image
only_left_now log image left =
    let same : take left.0 log.calls ≡ log.calls = take_all left.0 log.calls left.1 in
    subst (λ (l : List DiskCall). IsImage (state_of (cut log l)) image) same left.3

pub state_of-pushed : (log : Log) (call : DiskCall) → state_of (pushed log call) ≡ after (state_of log) call
state_of-pushed log call = run-push (settled log.first) log.calls call
