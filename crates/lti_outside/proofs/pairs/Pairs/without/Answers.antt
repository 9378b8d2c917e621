use Rattle.std.proofs.Common.{not, rules, bytes_eq}
use Rattle.std.proofs.lemmas.Fn.{filter_same}
use Rattle.lti_outside.specs.declared.pairs.Pair.{Pair}
use Rattle.lti_outside.proofs.pairs.Pairs.without.Goals as goal

pub returns : goal.returns
returns c =
    let kept = filter_same _ (λ (pair : Pair). not (bytes_eq pair.name c.args.name.now)) _ (λ x b f' h. search rules) _ _ c.retain.ensures.filtered in
    rw (← c.self.view_is) kept
