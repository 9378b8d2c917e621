use Rattle.std.proofs.Common.{ℕ, ◌+◌, List, Err, refl, sym, ◌∙◌, ap, subst}
use Rattle.gate_journal.specs.Half.{IsFilled, IsPassed}
use Rattle.gate_journal.specs.Doubt.{HasHeads}
use Rattle.gate_journal.specs.Read.{place_read}
use Rattle.gate_journal.specs.Pieces.{payloads_of}
use Rattle.gate_journal.proofs.HeadLemmas.{heads_current}
use Rattle.gate_journal.proofs.mount.read_synced.Goals as goal

pub returns-clause-stands : goal.returns-clause-stands
returns-clause-stands g c = λ tells.
    let seen = g.D.Disk.seen c.args.disk.now in
    let half = c.args.half in
    let gate = c.in_ok-gate.gate in
    let current = c.in_ok-current.current in
    let j = place_read half current gate in
    let first = c.in_ok-sync.ensures.seen in
    let same = c.in_ok-current.ensures.reads.same ∙ first in
    let heads = subst (λ (l : List ℕ). HasHeads l j current.is_open current.may_open) first (c.in_ok-current.ensures.heads tells gate) in
    let base = c.base.ensures.base in
    let payloads = payloads_of c.in_ok-gate.pieces.items in
    let filled = subst (λ (l : List ℕ). IsFilled l c.base.result half gate payloads) same (c.in_ok-gate.ensures.filled tells) in
    record { filled = subst (λ (b : ℕ). IsFilled seen b half gate payloads) base filled; heads = heads }

pub returns-in_err-gate-clause-damaged : goal.returns-in_err-gate-clause-damaged
returns-in_err-gate-clause-damaged g c = λ tells at is.
    let d = rw is at c.from_residual-in_err-gate.ensures.1 in
    let damage = c.in_err-gate.ensures.damaged tells at (ap Err (sym d)) in
    let seen = g.D.Disk.seen c.args.disk.now in
    let half = c.args.half in
    let gate = damage.0 in
    let current = c.in_ok-current.current in
    let j = place_read half current gate in
    let first = c.in_ok-sync.ensures.seen in
    let same = c.in_ok-current.ensures.reads.same ∙ first in
    let heads = subst (λ (l : List ℕ). HasHeads l j current.is_open current.may_open) first (c.in_ok-current.ensures.heads tells gate) in
    let base = c.base.ensures.base in
    let passed = subst (λ (l : List ℕ). IsPassed l c.base.result half gate) same damage.2 in (
      j,
      refl,
      damage.1 ∙ ap (λ (b : ℕ). b + gate) base,
      record { current = heads_current seen j current.is_open current.may_open heads; passed = subst (λ (b : ℕ). IsPassed seen b half gate) base passed },
    )
