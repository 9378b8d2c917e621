use Rattle.std.proofs.Common.{rules, ◌≡◌, true, false}
use Rattle.lti_machine.specs.Nonces.{stands, stamp_of_call}
use Rattle.lti_machine.specs.Rules.{is_issue}
use Rattle.lti_machine.proofs.UnsignedLemmas.{stands-operator}
use Rattle.lti_machine.proofs.solo.Solo.answer.Goals as goal
use Rattle.lti_machine.proofs.solo.Solo.answer.Goals.{then-not-is_issue+in-New, else-not-is_issue}

pub keep-requires-clause-new : goal.keep-requires-clause-new
keep-requires-clause-new c = elim c.if-not-is_issue.branch [
  | then-not-is_issue+in-New w ↦ let new : stands c.self.inside.entries.items c.args.call.key (stamp_of_call c.args.call) ≡ false = search rules in new
  | else-not-is_issue w ↦
      let issue : is_issue c.args.call.action ≡ true = search rules in
      stands-operator c.self.inside.entries.items c.args.call issue c.requires.stamp
]
