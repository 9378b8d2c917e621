use Rattle.std.proofs.Common.{sym, arith}
use Rattle.lti_desk.proofs.OfficeLemmas.{accepted_more, answers, goes_on, run_full}
use Rattle.lti_desk.proofs.office.Office.answer.Goals as goal

pub invariant_of-self-2 : goal.invariant_of-self-2
invariant_of-self-2 g c = (
  omega (arith, c.append.ensures.capacity, c.self.invariant.0),
  omega (arith, c.append.ensures.len, c.self.invariant.1, c.len.ensures, c.from.ensures, c.if-len-from.false),
  rw c.append.ensures.items
      (goes_on {g = g.D.Disk} c.self.inside.keeper c.answer-reply.new.self c.self.inside.began c.self.inside.trail.items c.args.call c.answer-reply.result
      c.answer-reply.ensures.answered c.self.invariant.2),
  rw c.append.ensures.items (accepted_more c.self.inside.trail.items (c.args.call, c.answer-reply.result) c.self.inside.accepted c.count_with-self-inside.result c.self.invariant.3 c.count_with-self-inside.ensures.count),
)

pub returns-then-len-from-clause-answered : goal.returns-then-len-from-clause-answered
returns-then-len-from-clause-answered g c =
    rw (sym c.self.view_is)
    (run_full {g = g.D.Disk} c.self.inside.keeper c.self.inside.began c.self.inside.trail.items c.args.call c.self.inside.most c.self.inside.turns _ c.self.invariant.2
    (omega (arith, c.self.inside.trail.ok, c.self.invariant.1, c.len.ensures, c.from.ensures, c.if-len-from.true)))

pub returns-clause-answered : goal.returns-clause-answered
returns-clause-answered g c =
    let led = c.self.invariant.2 in
    rw (sym c.self.view_is, c.append.ensures.items)
    (answers {g = g.D.Disk} c.self.inside.keeper c.answer-reply.new.self c.self.inside.began c.self.inside.trail.items c.args.call c.answer-reply.result
    c.self.inside.most c.self.inside.turns _ c.answer-reply.ensures.answered led (c.answer-reply.ensures.run_full _ led.knows) c.answer-reply.ensures.settled
    (omega (arith, c.self.inside.trail.ok, c.len.ensures, c.from.ensures, c.if-len-from.false)))
