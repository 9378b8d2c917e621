-- One more call of a disk in memory.
use Rattle.std.proofs.Common.{◌≡◌, inl, inr, ⊎_elim, ℕ, ◌+◌, ◌≤◌, Bool, true, false, cond, List, [], ◌∷◌, ◌++◌, length, refl, sym, ◌∙◌, ap, subst, arith, length-append}
use Rattle.std.proofs.lemmas.List.{take_all, take-append-le}
use Rattle.std.proofs.lemmas.Bool.{cases_lt}
use Rattle.lti_outside.specs.Disk.{Torn, TornFrom, Holds, Elapses, Only, SameImages}
use Rattle.lti_outside.specs.Held.{Held}
use Rattle.lti_outside.specs.DiskLog.{Log, pushed, State, put, after, state_of, IsImage, IsMixed, LeftSince}
use Rattle.lti_outside.specs.DiskLaws.{cut, state_of-pushed, Reached-pop, Reached-push, reads_are_image, put-torn, put-holds}
use Rattle.lti_outside.specs.declared.disk_call.DiskCall.{DiskCall}
use Rattle.lti_outside.specs.declared.disk_call.DiskCall.TheVariants.{Read, Write, Sync}

-- a call that isn't kept
pub elapses_same : (log : Log) → Elapses (length log.calls) (length log.calls) (LeftSince log) (LeftSince log) (IsImage (state_of log))
elapses_same log = record { later = omega arith; nothing_else = λ t image le left. inl left; keeps = λ t image le left. left }

elapses_pushed : (log : Log) (call : DiskCall) → Elapses (length log.calls) (length (pushed log call).calls) (LeftSince log) (LeftSince (pushed log call)) (IsImage (state_of (pushed log call)))
elapses_pushed log call = record {
  later = omega (arith, longer);
  nothing_else = λ t image le left. ⊎_elim
      (λ past. inr (subst (λ (l : List DiskCall). IsImage (state_of (cut log l)) image) (take_all left.0 (log.calls ++ call ∷ []) (omega (arith, past, longer))) left.3))
      (λ within. inl (left.0, left.1, within, subst (λ (l : List DiskCall). IsImage (state_of (cut log l)) image) (take-append-le left.0 log.calls (call ∷ []) within) left.3))
      (cases_lt (length log.calls) left.0);
  keeps = λ t image le left.
      (left.0, left.1, omega (arith, left.2, longer), subst (λ (l : List DiskCall). IsImage (state_of (cut log l)) image) (sym (take-append-le left.0 log.calls (call ∷ []) left.2)) left.3);
}
  where
    longer : length (log.calls ++ call ∷ []) ≡ length log.calls + 1
    longer = length-append log.calls (call ∷ [])

-- the log after a call that was kept
module _ (old new : Log) (call : DiskCall) (is : new ≡ pushed old call) where
  pub state_after : state_of new ≡ after (state_of old) call
  state_after = ap state_of is ∙ state_of-pushed old call

  pub time_after : Elapses (length old.calls) (length new.calls) (LeftSince old) (LeftSince new) (IsImage (state_of new))
  time_after = subst (λ (l : Log). Elapses (length old.calls) (length l.calls) (LeftSince old) (LeftSince l) (IsImage (state_of l))) (sym is) (elapses_pushed old call)

  pub first_after : length new.first ≡ length old.first
  first_after = ap (λ (l : Log). length l.first) is

-- after a read
module _ (old new : Log) (place len : ℕ) (is : new ≡ pushed old (Read place len)) where
  pub read_seen : (state_of new).reads ≡ (state_of old).reads
  read_seen = ap (λ (s : State). s.reads) (state_after old new (Read place len) is)

  pub read_images : SameImages (IsImage (state_of old)) (IsImage (state_of new))
  read_images image =
      let same = state_after old new (Read place len) is in
      (λ left. subst (λ (s : State). IsImage s image) same left, λ left. subst (λ (s : State). IsImage s image) (sym same) left)

-- after a write
module _ (old new : Log) (place : ℕ) (held : Held) (is : new ≡ pushed old (Write place held)) (piece : List ℕ) (holds : held.list ≡ piece) where
  pub write_seen : (state_of new).reads ≡ put (state_of old).reads place piece
  write_seen = ap (λ (s : State). s.reads) (state_after old new (Write place held) is) ∙ ap (λ (l : List ℕ). put (state_of old).reads place l) holds

  pub write_torn : Torn place (length piece) (state_of old).reads (state_of new).reads
  write_torn = subst (λ (l : List ℕ). Torn place (length piece) (state_of old).reads l) (sym write_seen) (put-torn (state_of old).reads place piece)

  pub write_images : (image : List ℕ) → IsImage (state_of new) image → TornFrom place (length piece) (IsImage (state_of old)) image
  write_images image left =
      let s = state_of old in
      let now = subst (λ (s : State). IsImage s image) (state_after old new (Write place held) is) left in
      let from = Reached-pop s.spans place (length held.list) s.synced image now in
      (from.0, from.1, subst (λ (l : List ℕ). Torn place (length l) from.0 image) holds from.2)

  pub write_holds : place + length piece ≤ length (state_of old).reads → Holds (state_of old).reads place piece (state_of new).reads
  write_holds fits = write_seen ∙ put-holds (state_of old).reads place piece fits

-- after a sync
sync_reads : (s : State) (done : Bool) → (after s (Sync done)).reads ≡ s.reads
sync_reads s true = refl
sync_reads s false = refl

module _ (old new : Log) (done : Bool) (is : new ≡ pushed old (Sync done)) where
  pub sync_seen : (state_of new).reads ≡ (state_of old).reads
  sync_seen = ap (λ (s : State). s.reads) (state_after old new (Sync done) is) ∙ sync_reads (state_of old) done

  pub sync_only : done ≡ true → Only (state_of old).reads (IsImage (state_of new))
  sync_only yes' image left = subst (λ (s : State). IsImage s image) (state_after old new (Sync done) is ∙ ap (λ (b : Bool). after (state_of old) (Sync b)) yes') left

  pub sync_same : done ≡ false → SameImages (IsImage (state_of old)) (IsImage (state_of new))
  sync_same no' image =
      let same : state_of new ≡ state_of old = state_after old new (Sync done) is ∙ ap (λ (b : Bool). after (state_of old) (Sync b)) no' in
      (λ left. subst (λ (s : State). IsImage s image) same left, λ left. subst (λ (s : State). IsImage s image) (sym same) left)

pub sync_fewer : (old new : Log) (done : Bool) → new ≡ pushed old (Sync done) → (image : List ℕ) → IsImage (state_of new) image → IsImage (state_of old) image
sync_fewer old new true is image left = subst (λ (l : List ℕ). IsImage (state_of old) l) (sym (sync_only old new true is refl image left)) (reads_are_image old)
sync_fewer old new false is image left = (sync_same old new false is refl image).0 left

-- what reads give stays where a call that writes nothing is kept, or none
pub quiet : (log : Log) (later : List DiskCall) (call : DiskCall) (kept : Bool) → later ≡ cond kept (log.calls ++ call ∷ []) log.calls → ((s : State) → (after s call).reads ≡ s.reads)
    → (state_of log).reads ≡ (state_of (cut log later)).reads
quiet log later call true is same = sym (ap (λ (s : State). s.reads) (state_after log (cut log later) call (ap (cut log) is)) ∙ same (state_of log))
quiet log later call false is same = sym (ap (λ (l : List DiskCall). (state_of (cut log l)).reads) is)

pub read_reads : (place len : ℕ) (s : State) → (after s (Read place len)).reads ≡ s.reads
read_reads place len s = refl

pub synced_reads : (done : Bool) (s : State) → (after s (Sync done)).reads ≡ s.reads
synced_reads done s = sync_reads s done

-- an image one write on
pub mixed_write : (pick : ℕ) (s : State) (reads image reads' image' : List ℕ) (place : ℕ) (held : Held) → IsMixed pick s reads image
    → Torn place (length held.list) image image' → (pick ≡ 0 → image' ≡ image) → (pick ≡ 1 → image' ≡ put image place held.list) → reads' ≡ put reads place held.list
    → IsMixed pick (after s (Write place held)) reads' image'
mixed_write pick s reads image reads' image' place held mixed torn synced written reads_is = record {
  reads_are = reads_is ∙ ap (λ (l : List ℕ). put l place held.list) mixed.reads_are;
  is_image = Reached-push s.spans place (length held.list) s.synced image image' mixed.is_image torn;
  as_synced = λ zeroth. synced zeroth ∙ mixed.as_synced zeroth;
  as_written = λ first. written first ∙ ap (λ (l : List ℕ). put l place held.list) (mixed.as_written first);
}
