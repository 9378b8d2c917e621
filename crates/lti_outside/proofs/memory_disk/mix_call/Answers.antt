use Rattle.std.proofs.Common.{◌≡◌, List, ℕ, length, sym, ◌∙◌, ap, subst, refl}
use Rattle.lti_outside.specs.DiskLog.{after, put, IsMixed}
use Rattle.lti_outside.specs.Disk.{Torn}
use Rattle.lti_outside.specs.declared.disk_call.DiskCall.{DiskCall}
use Rattle.lti_outside.proofs.DiskCallLemmas.{mixed_write}
use Rattle.lti_outside.proofs.memory_disk.mix_call.Goals as goal

pub returns-in-Write : goal.returns-in-Write
returns-in-Write c = λ s mixed.
    let image = c.args.image.now.items in
    let image' = c.mix-seed.new.bytes.items in
    let reads = c.args.reads.now.items in
    let torn = subst (λ (l : List ℕ). Torn c.in-Write.place (length l) image image') c.get.ensures c.mix-seed.ensures.torn in
    let written = λ (first : c.args.pick ≡ 1). c.mix-seed.ensures.written first ∙ ap (λ (l : List ℕ). put image c.in-Write.place l) c.get.ensures in
    let reads_is = c.mix.ensures.written refl ∙ ap (λ (l : List ℕ). put reads c.in-Write.place l) c.get-in-Write.ensures in
    let mixed' = mixed_write c.args.pick s reads image c.mix.new.bytes.items image' c.in-Write.place c.in-Write.piece mixed torn c.mix-seed.ensures.synced written reads_is in
    subst (λ (call : DiskCall). IsMixed c.args.pick (after s call) c.mix.new.bytes.items image') (sym c.in-Write.is) mixed'
