use Rattle.std.proofs.Common.{ap}
use Rattle.http_wire.specs.Spelling.{WireState}
use Rattle.lti_provider.proofs.PassbackLemmas.{judged_made, unread_made}
use Rattle.lti_provider.proofs.sending.made.Goals as goal

pub returns-in_err-answered : goal.returns-in_err-answered
returns-in_err-answered g c =
    unread_made c.args.limits.now (g.L.Outside.traffic c.args.link.now) (g.L.Outside.traffic c.read_response.new.link) c.new.result.kept c.read_response.new.self.kept
    c.in_err-answered.field-0.0 c.from_residual.result (ap (λ (w : WireState). w.kept) c.new.ensures) c.from_residual.ensures.1 c.in_err-answered.ensures.bytes

pub returns : goal.returns
returns g c =
    judged_made c.args.limits.now (g.L.Outside.traffic c.args.link.now) (g.L.Outside.traffic c.read_response.new.link) c.in_ok-answered.answered c.new.result.kept
    c.read_response.new.self.kept c.judged.result (ap (λ (w : WireState). w.kept) c.new.ensures) c.in_ok-answered.ensures.bytes c.judged.ensures
