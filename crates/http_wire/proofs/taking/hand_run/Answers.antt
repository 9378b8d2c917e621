use Rattle.std.proofs.Common.{◌≡◌, ◌≤◌, ◌-◌, ⊎_elim, ℕ, List, [], ◌++◌, take, length, sym, ap, ◌∙◌, subst, arith}
use Rattle.std.proofs.lemmas.Bool.{cases_lt}
use Rattle.std.proofs.lemmas.Grind.{common_steps}
use Rattle.std.proofs.lemmas.List.{take-append-drop, length-take-le, nil_from_length}
use Rattle.http_wire.specs.Taking.{HasNoLineFeed}
use Rattle.http_wire.proofs.HeldLemmas.{front_is_run}
use Rattle.http_wire.proofs.taking.hand_run.Goals as goal

pub returns : goal.returns
returns g c =
    let read = c.in_ok-fill.ensures in
    let held = c.fill.new.self in
    let n = c.min-count.result in
    let size : length c.held-held.result.now ≡ length held = ap length c.held-held.ensures in
    let bound : c.run_len.result ≤ length held = omega (arith, size, c.run_len.ensures.bound) in
    let within : n ≤ c.run_len.result = omega (arith, c.min-count.ensures) in
    let none : HasNoLineFeed (take (c.run_len.result - 1) held) = subst (λ (h : List ℕ). HasNoLineFeed (take (c.run_len.result - 1) h)) c.held-held.ensures c.run_len.ensures.run in (
      read.0,
      read.1,
      (
        take n held,
        sym read.2 ∙ sym (take-append-drop n held) ∙ ap (λ rest. take n held ++ rest) (sym c.skip.ensures),
        grind (arith, common_steps, c.in_ok-push.ensures.ok, c.held-held.ensures),
        length-take-le n held (omega (arith, bound, within)),
        omega (arith, c.min-count.ensures),
        front_is_run held c.run_len.result n none within bound,
        λ zero.
            let empty : held ≡ [] = nil_from_length held (⊎_elim
            (λ some. absurd (omega (arith, c.run_len.ensures.some some, zero, c.min-count.ensures, c.requires)))
            (λ none. omega (arith, none, size))
            (cases_lt 0 (length c.held-held.result.now))) in
            (sym read.2 ∙ empty, read.3 empty),
      ),
    )
