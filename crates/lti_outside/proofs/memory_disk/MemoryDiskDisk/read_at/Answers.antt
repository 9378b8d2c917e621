use Rattle.std.proofs.Common.{◌≡◌, ℕ, List, ◌+◌, ◌-◌, length, take, drop, ◌∙◌, ap, arith}
use Rattle.lti_outside.specs.DiskLog.{pushed}
use Rattle.lti_outside.specs.DiskLaws.{reads_size}
use Rattle.lti_outside.specs.MemoryDisk.{log_of, disk_state}
use Rattle.lti_outside.specs.declared.disk_call.DiskCall.TheVariants.{Read}
use Rattle.lti_outside.proofs.DiskCallLemmas.{time_after, read_seen, read_images}
use Rattle.lti_outside.proofs.memory_disk.MemoryDiskDisk.read_at.Goals as goal

pub returns-then-fails-clause-seen : goal.returns-then-fails-clause-seen
returns-then-fails-clause-seen c =
    let old = log_of c.args.self.now in
    let new = log_of c.raise-then-fails.new.self in
    let is = c.raise-then-fails.ensures.log ∙ c.in_default.ensures.log ∙ ap (λ log. pushed log (Read c.args.place (length c.args.buf.now))) c.next_turn-fails.ensures.log in
    read_seen old new c.args.place (length c.args.buf.now) is

pub returns-then-fails-clause-crash : goal.returns-then-fails-clause-crash
returns-then-fails-clause-crash c =
    let old = log_of c.args.self.now in
    let new = log_of c.raise-then-fails.new.self in
    let is = c.raise-then-fails.ensures.log ∙ c.in_default.ensures.log ∙ ap (λ log. pushed log (Read c.args.place (length c.args.buf.now))) c.next_turn-fails.ensures.log in
    read_images old new c.args.place (length c.args.buf.now) is

pub returns-then-fails-clause-time : goal.returns-then-fails-clause-time
returns-then-fails-clause-time c =
    let old = log_of c.args.self.now in
    let new = log_of c.raise-then-fails.new.self in
    let is = c.raise-then-fails.ensures.log ∙ c.in_default.ensures.log ∙ ap (λ log. pushed log (Read c.args.place (length c.args.buf.now))) c.next_turn-fails.ensures.log in
    time_after old new (Read c.args.place (length c.args.buf.now)) is

pub returns-clause-seen : goal.returns-clause-seen
returns-clause-seen c =
    let old = log_of c.args.self.now in
    let new = log_of c.note_read.new.self in
    let is = c.in_default.ensures.log ∙ ap (λ log. pushed log (Read c.args.place (length c.args.buf.now))) c.next_turn-fails.ensures.log in
    read_seen old new c.args.place (length c.args.buf.now) is

pub returns-clause-crash : goal.returns-clause-crash
returns-clause-crash c =
    let old = log_of c.args.self.now in
    let new = log_of c.note_read.new.self in
    let is = c.in_default.ensures.log ∙ ap (λ log. pushed log (Read c.args.place (length c.args.buf.now))) c.next_turn-fails.ensures.log in
    read_images old new c.args.place (length c.args.buf.now) is

pub returns-clause-time : goal.returns-clause-time
returns-clause-time c =
    let old = log_of c.args.self.now in
    let new = log_of c.note_read.new.self in
    let is = c.in_default.ensures.log ∙ ap (λ log. pushed log (Read c.args.place (length c.args.buf.now))) c.next_turn-fails.ensures.log in
    time_after old new (Read c.args.place (length c.args.buf.now)) is

pub slice_bounds-copy_from_slice-end : goal.slice_bounds-copy_from_slice-end
slice_bounds-copy_from_slice-end c =
    let m = c.note_read.new.self in
    let same = m.cached c.in_default.ensures.ready in
    let kept = c.in_default.ensures.log ∙ ap (λ log. pushed log (Read c.args.place (length c.args.buf.now))) c.next_turn-fails.ensures.log in
    omega (arith, ap length same, reads_size (log_of m), ap (λ log. length log.first) kept, reads_size (log_of c.args.self.now), m.bytes.ok.0)

pub returns-clause-bytes : goal.returns-clause-bytes
returns-clause-bytes c =
    let old = log_of c.args.self.now in
    let new = log_of c.note_read.new.self in
    let is = c.in_default.ensures.log ∙ ap (λ log. pushed log (Read c.args.place (length c.args.buf.now))) c.next_turn-fails.ensures.log in
    let m = c.note_read.new.self in
    let same : m.bytes.items ≡ (disk_state m).reads = m.cached c.in_default.ensures.ready in
    let n : c.args.place + length c.args.buf.now - c.args.place ≡ length c.args.buf.now = omega arith in
    λ told. c.copy_from_slice.ensures.after ∙ ap (λ (n : ℕ). take n (drop c.args.place c.deref.result.now)) n
    ∙ ap (λ (l : List ℕ). take (length c.args.buf.now) (drop c.args.place l)) (c.deref.ensures.value ∙ same ∙ read_seen old new c.args.place (length c.args.buf.now) is)
