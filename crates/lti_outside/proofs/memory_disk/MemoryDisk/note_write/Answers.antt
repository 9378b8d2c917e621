use Rattle.std.proofs.Common.{◌≡◌, ℕ, List, ◌++◌, sym, ◌∙◌, ap, length, arith}
use Rattle.lti_outside.specs.DiskLog.{put}
use Rattle.lti_outside.specs.DiskLaws.{cut, reads_size}
use Rattle.lti_outside.specs.MemoryDisk.{log_of, disk_state}
use Rattle.lti_outside.proofs.DiskCallLemmas.{write_seen}
use Rattle.lti_outside.proofs.memory_disk.MemoryDisk.note_write.Goals as goal

pub put_bytes-requires : goal.put_bytes-requires
put_bytes-requires c =
    let m = c.make_ready.new.self in
    let same = m.cached c.in_ok-make_ready.ensures.ok in
    let kept = c.in_ok-make_ready.ensures.log in
    omega (arith, ap length same, reads_size (log_of m), ap (λ log. length log.first) kept, m.bytes.ok.0)

pub invariant_of-self-clause-cached : goal.invariant_of-self-clause-cached
invariant_of-self-clause-cached c = λ ready.
    let m = c.make_ready.new.self in
    let held = c.push.new.self in
    let copied : held.list ≡ c.args.piece.now = c.in_ok-push.ensures.ok ∙ ap (λ (l : List ℕ). l ++ c.args.piece.now) c.new-copy.ensures in
    let same : m.bytes.items ≡ (disk_state m).reads = m.cached ready in
    c.put_bytes.ensures ∙ ap (λ (l : List ℕ). put l c.args.place c.args.piece.now) same
    ∙ sym (write_seen (log_of m) (cut (log_of m) c.push-2.new.self.items) c.args.place held (ap (cut (log_of m)) c.in-Ok.ensures.items) c.args.piece.now copied)
