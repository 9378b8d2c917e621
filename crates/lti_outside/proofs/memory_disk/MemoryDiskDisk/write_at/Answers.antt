use Rattle.std.proofs.Common.{length, ◌∙◌, ap, arith}
use Rattle.lti_outside.specs.DiskLog.{pushed}
use Rattle.lti_outside.specs.DiskLaws.{reads_size}
use Rattle.lti_outside.specs.MemoryDisk.{log_of}
use Rattle.lti_outside.specs.declared.disk_call.DiskCall.TheVariants.{Write}
use Rattle.lti_outside.proofs.DiskCallLemmas.{time_after, write_torn, write_images, write_holds}
use Rattle.lti_outside.proofs.memory_disk.MemoryDiskDisk.write_at.Goals as goal

pub note_write-requires : goal.note_write-requires
note_write-requires c = omega (arith, ap (λ log. length log.first) c.next_turn-fails.ensures.log, reads_size (log_of c.args.self.now))

pub returns-then-fails-clause-torn : goal.returns-then-fails-clause-torn
returns-then-fails-clause-torn c =
    let old = log_of c.args.self.now in
    let new = log_of c.raise-then-fails.new.self in
    let w = c.in_default.ensures.log in
    let is = c.raise-then-fails.ensures.log ∙ w.2 ∙ ap (λ log. pushed log (Write c.args.place w.0)) c.next_turn-fails.ensures.log in
    write_torn old new c.args.place w.0 is c.args.piece.now w.1

pub returns-then-fails-clause-crash : goal.returns-then-fails-clause-crash
returns-then-fails-clause-crash c =
    let old = log_of c.args.self.now in
    let new = log_of c.raise-then-fails.new.self in
    let w = c.in_default.ensures.log in
    let is = c.raise-then-fails.ensures.log ∙ w.2 ∙ ap (λ log. pushed log (Write c.args.place w.0)) c.next_turn-fails.ensures.log in
    write_images old new c.args.place w.0 is c.args.piece.now w.1

pub returns-then-fails-clause-time : goal.returns-then-fails-clause-time
returns-then-fails-clause-time c =
    let old = log_of c.args.self.now in
    let new = log_of c.raise-then-fails.new.self in
    let w = c.in_default.ensures.log in
    let is = c.raise-then-fails.ensures.log ∙ w.2 ∙ ap (λ log. pushed log (Write c.args.place w.0)) c.next_turn-fails.ensures.log in
    time_after old new (Write c.args.place w.0) is

pub returns-clause-torn : goal.returns-clause-torn
returns-clause-torn c =
    let old = log_of c.args.self.now in
    let new = log_of c.note_write.new.self in
    let w = c.in_default.ensures.log in
    let is = w.2 ∙ ap (λ log. pushed log (Write c.args.place w.0)) c.next_turn-fails.ensures.log in
    write_torn old new c.args.place w.0 is c.args.piece.now w.1

pub returns-clause-crash : goal.returns-clause-crash
returns-clause-crash c =
    let old = log_of c.args.self.now in
    let new = log_of c.note_write.new.self in
    let w = c.in_default.ensures.log in
    let is = w.2 ∙ ap (λ log. pushed log (Write c.args.place w.0)) c.next_turn-fails.ensures.log in
    write_images old new c.args.place w.0 is c.args.piece.now w.1

pub returns-clause-time : goal.returns-clause-time
returns-clause-time c =
    let old = log_of c.args.self.now in
    let new = log_of c.note_write.new.self in
    let w = c.in_default.ensures.log in
    let is = w.2 ∙ ap (λ log. pushed log (Write c.args.place w.0)) c.next_turn-fails.ensures.log in
    time_after old new (Write c.args.place w.0) is

pub returns-clause-written : goal.returns-clause-written
returns-clause-written c =
    let old = log_of c.args.self.now in
    let new = log_of c.note_write.new.self in
    let w = c.in_default.ensures.log in
    let is = w.2 ∙ ap (λ log. pushed log (Write c.args.place w.0)) c.next_turn-fails.ensures.log in
    λ told. write_holds old new c.args.place w.0 is c.args.piece.now w.1 c.requires
