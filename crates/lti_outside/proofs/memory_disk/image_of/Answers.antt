use Rattle.std.proofs.Common.{◌≡◌, ◌+◌, take, ◌++◌, ◌∷◌, [], List, sym, ◌∙◌, ap, subst}
use Rattle.std.proofs.lemmas.List.{take_more}
use Rattle.lti_outside.specs.DiskLog.{Log, State, state_of, IsMixed}
use Rattle.lti_outside.specs.DiskLaws.{cut, state_of-pushed}
use Rattle.lti_outside.specs.declared.disk_call.DiskCall.{DiskCall}
use Rattle.lti_outside.proofs.memory_disk.image_of.Goals as goal

pub loop-call-preserved : goal.loop-call-preserved
loop-call-preserved c =
    let call = c.call-item.result in
    let calls = c.args.calls.now in
    let log : Log = record { first = c.args.first.now; calls = calls } in
    let i = c.loop-call.call-index in
    let more : take (i + 1) calls ≡ take i calls ++ call ∷ [] =
    take_more calls i call c.loop-call-test.true ∙ ap (λ (x : DiskCall). take i calls ++ x ∷ []) (sym c.call-item.is) in
    let state = ap (λ (l : List DiskCall). state_of (cut log l)) more ∙ state_of-pushed (cut log (take i calls)) call in
    subst (λ (s : State). IsMixed c.args.pick s c.mix_call.new.reads.items c.mix_call.new.image.items) (sym state) (c.in_ok-seed.ensures _ c.loop-call.invariant)
