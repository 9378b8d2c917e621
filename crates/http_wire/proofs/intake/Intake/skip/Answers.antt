use Rattle.std.proofs.Common.{◌≡◌, ◌-◌, ap, ◌∙◌, arith, drop, take, length, length-take}
use Rattle.http_wire.proofs.HeldLemmas.{held_skip}
use Rattle.http_wire.proofs.intake.Intake.skip.Goals as goal

pub returns : goal.returns
returns c =
    let buf = c.self.inside.buf in
    let at = c.self.inside.at in
    let end = c.self.inside.end in
    let counted : length (take (end - at) (drop at buf)) ≡ length c.args.self.now = ap length c.self.view_is in
    held_skip buf at end c.args.count (omega arith) (omega (arith, counted, length-take (end - at) (drop at buf), c.requires))
    ∙ ap (drop c.args.count) c.self.view_is
