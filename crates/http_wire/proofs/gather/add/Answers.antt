use Rattle.std.proofs.Common.{List, ℕ, ◌++◌, sym, ap, ◌∙◌, append-nil, subst}
use Rattle.std.proofs.lemmas.Result.{on_ok_weaker, on_err_weaker}
use Rattle.lti_outside.specs.Traffic.{GivesFront}
use Rattle.lti_outside.proofs.TrafficLemmas.{Moves-gives}
use Rattle.http_wire.proofs.GivenLemmas.{GivesFront-then}
use Rattle.http_wire.proofs.gather.add.Goals as goal

pub returns-clause-added : goal.returns-clause-added
returns-clause-added g c =
    let given = c.get.result.now ++ c.args.piece.now in
    on_ok_weaker c.give_all-2.result
    (λ moves. (
      given,
      Moves-gives c.in_ok-give_all.ensures.given moves,
      ap (λ held. held ++ c.args.piece.now) (sym c.get.ensures) ∙ sym (append-nil given) ∙ ap (λ held. given ++ held) (sym c.clear.ensures),
    ))
    c.give_all-2.ensures.given

pub returns-clause-failed : goal.returns-clause-failed
returns-clause-failed g c =
    on_err_weaker c.give_all-2.result
    (λ gives.
    subst (λ (held : List ℕ). GivesFront (g.O.Outside.traffic c.args.sink.now) (g.O.Outside.traffic c.give_all-2.new.sink) (held ++ c.args.piece.now)) c.get.ensures
    (GivesFront-then c.get.result.now c.args.piece.now c.in_ok-give_all.ensures.given gives))
    c.give_all-2.ensures.failed
