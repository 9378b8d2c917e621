use Rattle.std.proofs.Common.{◌∙◌, ◌+◌, ap, sym}
use Rattle.std.proofs.lemmas.Bool.{eqb-true, eq-eqb}
use Rattle.turn_lock.specs.Counts.{once_below}
use Rattle.turn_lock.specs.Passes.{stands}
use Rattle.turn_lock.proofs.Numbering.{count_whole, whole_count}
use Rattle.turn_lock.proofs.pass.Pass.whole.Goals as goal

pub returns-clause-whole : goal.returns-clause-whole
returns-clause-whole g c =
    let i = c.self.inside in
    let r = c.self.invariant in (
      λ all k.
          ap (stands k) (sym c.self.view_is)
          ∙ count_whole i.seat.me.0.own i.spare (i.first + 1) r.once (ap (λ n. n + i.spare) r.answered_is ∙ eqb-true _ _ all) k
          ∙ ap (λ (p : _). once_below k (p.first + 1)) c.self.view_is,
      λ whole. eq-eqb _ _ (ap (λ n. n + i.spare) (sym r.answered_is) ∙ whole_count i.seat.me.0.own i.spare (i.first + 1) r.once (λ k.
          ap (stands k) c.self.view_is ∙ whole k ∙ ap (λ (p : _). once_below k (p.first + 1)) (sym c.self.view_is))),
    )
