use Rattle.std.proofs.Common.{[], append-nil, sym, ◌∙◌, arith}
use Rattle.lti_outside.proofs.TrafficLemmas.{Moves-same}
use Rattle.http_wire.proofs.HeldLemmas.{some_held}
use Rattle.http_wire.proofs.intake.Intake.fill.Goals as goal

pub returns-then-self : goal.returns-then-self
returns-then-self g c = (
  [],
  Moves-same _,
  sym (append-nil _),
  λ empty. absurd (some_held c.self.inside.buf c.self.inside.at c.self.inside.end (omega arith) (omega arith) (c.self.view_is ∙ empty)),
)
