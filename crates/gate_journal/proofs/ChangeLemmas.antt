-- What a call leaves to a crash, by how it ended.
use Rattle.std.proofs.Common.{◌≡◌, inl, ℕ, ◌-◌, true, false, true≢false, List, length, Result, Ok, Err, IsOk, IsErr, OnOk, OnErr, sym, ◌∙◌, subst}
use Rattle.std.proofs.lemmas.Result.{IfOk-from_err}
use Rattle.lti_outside.specs.DiskMoments.{LeavesOnly}
use Rattle.lti_outside.specs.declared.disk.Disk.{Ghosts}
use Rattle.lti_outside.proofs.DiskMomentLemmas.{OnlyNow, LeavesOnly-start, LeavesOnly-then}
use Rattle.gate_journal.specs.Half.{Place, packed_place, packed_of, StandsFor, IsEither}
use Rattle.gate_journal.specs.Journal.{disk_of, place_of, doubts, Keeps, MayKeep}
use Rattle.gate_journal.specs.Changes.{Changes, Repacks}
use Rattle.gate_journal.specs.declared.journal.Journal.{Journal}
use Rattle.gate_journal.proofs.HeadLemmas.{Stands-either}

pub on_err : {T E : Type 0} (r : Result T E) (P : Type 0) → P → OnErr r P
on_err (Ok x) P p = tt
on_err (Err e) P p = p

on_ok : {T E : Type 0} (r : Result T E) (P : Type 0) → P → OnOk r P
on_ok (Ok x) P p = p
on_ok (Err e) P p = tt

not_err : {T E : Type 0} (r : Result T E) (P : Type 0) → IsOk r → OnErr r P
not_err (Ok x) P is = tt
not_err (Err e) P is = absurd (true≢false (sym is))

module _ {D : Type 0} {g : Ghosts D} {T E : Type 0} (old new : Journal D g) (result : Result T E) (payloads others : List (List ℕ)) (moments : LeavesOnly g (disk_of old) (disk_of new) (IsEither (place_of old).half payloads others)) where
  -- by a fault after which nothing is in doubt
  pub undone : IsErr result → doubts new ≡ false → Keeps new payloads → Changes old new result payloads others
  undone is settled keeps = record { any_moment = moments; kept = IfOk-from_err result _ is; clear = on_err result _ (λ still. keeps); doubt = λ doubtful. absurd (true≢false (sym doubtful ∙ settled)) }

  -- by a fault after which a gate is in doubt
  pub doubted : IsErr result → doubts new ≡ true → MayKeep new payloads others → Changes old new result payloads others
  doubted is doubtful may = record { any_moment = moments; kept = IfOk-from_err result _ is; clear = on_err result _ (λ settled. absurd (true≢false (sym doubtful ∙ settled))); doubt = λ still. may }

  -- by an Ok
  pub done : IsOk result → doubts new ≡ false → Keeps new others → Changes old new result payloads others
  done is settled keeps = record { any_moment = moments; kept = on_ok result _ keeps; clear = not_err result _ is; doubt = λ doubtful. absurd (true≢false (sym doubtful ∙ settled)) }

-- no call of the disk was made
pub untouched : {D : Type 0} {g : Ghosts D} {T E : Type 0} (m : Journal D g) (result : Result T E) (payloads others : List (List ℕ)) → OnlyNow g → IsErr result → doubts m ≡ false → Keeps m payloads → Changes m m result payloads others
untouched {g = g} m result payloads others only_now is settled keeps =
    undone m m result payloads others
    (LeavesOnly-start g (disk_of m) (IsEither (place_of m).half payloads others) only_now (λ image left. Stands-either (place_of m) m.is_open m.may_open payloads others image (keeps.each image left))) is settled keeps

module _ {D : Type 0} {g : Ghosts D} {T E : Type 0} (old new : Journal D g) (result : Result T E) (generation : ℕ) (packed : List ℕ) where
  -- packed pieces were not put in the place of the others
  pub unpacked : IsErr result → place_of new ≡ place_of old
      → ((payloads pieces : List (List ℕ)) → packed ≡ packed_of generation pieces → Keeps old payloads → Changes old new result payloads pieces) → Repacks old new result generation packed
  unpacked is same crash = record { place = IfOk-from_err result _ is; settled = IfOk-from_err result _ is; place_err = on_err result _ same; crash = crash }

  -- they were
  pub repacked : IsOk result → place_of new ≡ packed_place (place_of old) generation (length packed - 9) → doubts new ≡ false
      → ((payloads pieces : List (List ℕ)) → packed ≡ packed_of generation pieces → Keeps old payloads → Changes old new result payloads pieces) → Repacks old new result generation packed
  repacked is place settled crash = record { place = on_ok result _ place; settled = on_ok result _ settled; place_err = not_err result _ is; crash = crash }

  -- behind calls that left what the journal kept
  pub repacked_behind : (mid : Journal D g) → place_of mid ≡ place_of old
      → ((payloads : List (List ℕ)) → Keeps old payloads → Keeps mid payloads × LeavesOnly g (disk_of old) (disk_of mid) (λ image. StandsFor image (place_of old).half payloads))
      → Repacks mid new result generation packed → Repacks old new result generation packed
  repacked_behind mid same before r = record {
    place = subst (λ (j : Place). OnOk result (place_of new ≡ packed_place j generation (length packed - 9))) same r.place;
    settled = r.settled;
    place_err = subst (λ (j : Place). OnErr result (place_of new ≡ j)) same r.place_err;
    crash = λ payloads pieces is keeps.
        let R = IsEither (place_of old).half payloads pieces in
        let changes = r.crash payloads pieces is (before payloads keeps).0 in
        let behind = subst (λ (j : Place). LeavesOnly g (disk_of mid) (disk_of new) (IsEither j.half payloads pieces)) same changes.any_moment in
        record {
          any_moment = LeavesOnly-then g (disk_of old) (disk_of mid) (disk_of new) (λ image. StandsFor image (place_of old).half payloads) R R (before payloads keeps).1 behind (λ image here. inl here) (λ image here. here);
          kept = changes.kept;
          clear = changes.clear;
          doubt = changes.doubt;
        };
  }
