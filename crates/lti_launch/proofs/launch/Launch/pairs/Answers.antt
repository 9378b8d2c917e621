use Rattle.std.proofs.Common.{List, map, sym, subst, ap, ◌∙◌}
use Rattle.lti_outside.specs.declared.pairs.Pair.{Pair}
use Rattle.lti_launch.specs.declared.found.Found.{Found}
use Rattle.lti_launch.specs.Found.{value_found}
use Rattle.lti_launch.specs.Launch.{IsLaunch, pairs_of}
use Rattle.lti_launch.specs.Laws.{Spells}
use Rattle.lti_launch.proofs.BackLemmas.{reads_back}
use Rattle.lti_launch.proofs.launch.Launch.pairs.Goals as goal

pub returns-clause-read_back : goal.returns-clause-read_back
returns-clause-read_back c =
    let launch = c.args.self.now in
    let fields = c.self.inside in
    let is : IsLaunch launch = subst IsLaunch c.self.view_is c.self.invariant in
    let found = ap (λ (found : List Found). pairs_of (record { fields = map value_found found; custom = fields.custom; ext = fields.ext; rest = fields.rest })) c.as_slice-found.ensures.value in
    subst (λ (pairs : List Pair). Spells pairs launch) (sym (c.in_ok-pairs.ensures ∙ found ∙ ap pairs_of c.self.view_is)) (reads_back launch is)
