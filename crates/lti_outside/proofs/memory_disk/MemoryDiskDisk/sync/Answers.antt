use Rattle.std.proofs.Common.{not, ◌∙◌, ap}
use Rattle.lti_outside.specs.DiskLog.{pushed}
use Rattle.lti_outside.specs.MemoryDisk.{log_of}
use Rattle.lti_outside.specs.declared.disk_call.DiskCall.TheVariants.{Sync}
use Rattle.lti_outside.proofs.DiskCallLemmas.{time_after, sync_seen, sync_only, sync_same, sync_fewer}
use Rattle.lti_outside.proofs.memory_disk.MemoryDiskDisk.sync.Goals as goal

pub returns-then-fails-clause-seen : goal.returns-then-fails-clause-seen
returns-then-fails-clause-seen c =
    let old = log_of c.args.self.now in
    let new = log_of c.raise-then-fails.new.self in
    let d = not c.next_turn-fails.result in
    let is = c.raise-then-fails.ensures.log ∙ c.in_default.ensures.log ∙ ap (λ log. pushed log (Sync d)) c.next_turn-fails.ensures.log in
    sync_seen old new d is

pub returns-then-fails-clause-fewer : goal.returns-then-fails-clause-fewer
returns-then-fails-clause-fewer c =
    let old = log_of c.args.self.now in
    let new = log_of c.raise-then-fails.new.self in
    let d = not c.next_turn-fails.result in
    let is = c.raise-then-fails.ensures.log ∙ c.in_default.ensures.log ∙ ap (λ log. pushed log (Sync d)) c.next_turn-fails.ensures.log in
    sync_fewer old new d is

pub returns-then-fails-clause-crash : goal.returns-then-fails-clause-crash
returns-then-fails-clause-crash c =
    let old = log_of c.args.self.now in
    let new = log_of c.raise-then-fails.new.self in
    let d = not c.next_turn-fails.result in
    let is = c.raise-then-fails.ensures.log ∙ c.in_default.ensures.log ∙ ap (λ log. pushed log (Sync d)) c.next_turn-fails.ensures.log in
    sync_same old new d is (ap not c.if-fails.true)

pub returns-then-fails-clause-time : goal.returns-then-fails-clause-time
returns-then-fails-clause-time c =
    let old = log_of c.args.self.now in
    let new = log_of c.raise-then-fails.new.self in
    let d = not c.next_turn-fails.result in
    let is = c.raise-then-fails.ensures.log ∙ c.in_default.ensures.log ∙ ap (λ log. pushed log (Sync d)) c.next_turn-fails.ensures.log in
    time_after old new (Sync d) is

pub returns-clause-seen : goal.returns-clause-seen
returns-clause-seen c =
    let old = log_of c.args.self.now in
    let new = log_of c.note_sync.new.self in
    let d = not c.next_turn-fails.result in
    let is = c.in_default.ensures.log ∙ ap (λ log. pushed log (Sync d)) c.next_turn-fails.ensures.log in
    sync_seen old new d is

pub returns-clause-fewer : goal.returns-clause-fewer
returns-clause-fewer c =
    let old = log_of c.args.self.now in
    let new = log_of c.note_sync.new.self in
    let d = not c.next_turn-fails.result in
    let is = c.in_default.ensures.log ∙ ap (λ log. pushed log (Sync d)) c.next_turn-fails.ensures.log in
    sync_fewer old new d is

pub returns-clause-time : goal.returns-clause-time
returns-clause-time c =
    let old = log_of c.args.self.now in
    let new = log_of c.note_sync.new.self in
    let d = not c.next_turn-fails.result in
    let is = c.in_default.ensures.log ∙ ap (λ log. pushed log (Sync d)) c.next_turn-fails.ensures.log in
    time_after old new (Sync d) is

pub returns-clause-durable : goal.returns-clause-durable
returns-clause-durable c =
    let old = log_of c.args.self.now in
    let new = log_of c.note_sync.new.self in
    let d = not c.next_turn-fails.result in
    let is = c.in_default.ensures.log ∙ ap (λ log. pushed log (Sync d)) c.next_turn-fails.ensures.log in
    sync_only old new d is (ap not c.if-fails.false)
