-- What came of the attempts so far, and then of this one.
use Rattle.std.proofs.Common.{◌≡◌, ◌∙◌, sym, arith, subst}
use Rattle.lti_doors.specs.Accepting.{came, refused, Makes, PassesBy}
use Rattle.lti_doors.proofs.AttemptLemmas.{Makes-none, passes_on, ends_in_connection, ends_in_error, gives_up, at_once, later, never}
use Rattle.lti_doors.proofs.tcp_door.accept_next.Goals.{in-Ok+else-is_ok, in-Err, in-Err-2}
use Rattle.lti_doors.proofs.tcp_door.accept_next.Goals as goal

pub loop-init : goal.loop-init
loop-init g c = Makes-none (g.L.Accepting.attempts c.args.listener.now)

pub returns-then-is_ok-clause-some : goal.returns-then-is_ok-clause-some
returns-then-is_ok-clause-some g c =
    let attempts = g.L.Accepting.attempts in
    let before = attempts c.args.listener.now in
    let so_far = attempts c.loop.listener in
    let now = attempts c.accept.new.self in
    ends_in_connection c.loop.counter before so_far now c.loop-test.true c.loop.invariant c.in-Ok.ensures

pub returns-in-Err-3-clause-none : goal.returns-in-Err-3-clause-none
returns-in-Err-3-clause-none g c =
    let attempts = g.L.Accepting.attempts in
    let before = attempts c.args.listener.now in
    let so_far = attempts c.loop.listener in
    let now = attempts c.accept.new.self in
    let error = c.in-Err.error in
    let over = never error (sym c.tried_at_once.ensures ∙ c.if-tried_at_once.false) (sym c.tried_later.ensures ∙ c.if-tried_later.false) in
    ends_in_error c.loop.counter error before so_far now c.loop-test.true over c.loop.invariant c.in-Err.ensures

pub loop-preserved : goal.loop-preserved
loop-preserved g c =
    let attempts = g.L.Accepting.attempts in
    let before = attempts c.args.listener.now in
    let so_far = attempts c.loop.listener in
    let now = attempts c.accept.new.self in
    elim c.match-accept.branch [
      | in-Ok+else-is_ok w ↦ passes_on c.loop.counter came before so_far now tt c.loop.invariant w.in-Ok.ensures
      | in-Err w ↦
          let passed = at_once w.in-Err.error (sym w.tried_at_once.ensures ∙ w.if-tried_at_once.true) in
          passes_on c.loop.counter (refused w.in-Err.error) before so_far now passed c.loop.invariant w.in-Err.ensures
      | in-Err-2 w ↦
          let passed = later w.in-Err.error (sym w.tried_later.ensures ∙ w.if-tried_later.true) in
          passes_on c.loop.counter (refused w.in-Err.error) before so_far now passed c.loop.invariant w.in-Err.ensures
    ]

pub returns-clause-none : goal.returns-clause-none
returns-clause-none g c =
    let attempts = g.L.Accepting.attempts in
    let before = attempts c.args.listener.now in
    let so_far = attempts c.loop.listener in
    let all : c.loop.counter ≡ 1_000_000 = omega (arith, c.loop-test.false, c.loop.auto.counter-end) in
    gives_up before so_far (subst (λ n. Makes before so_far (PassesBy n)) all c.loop.invariant)
