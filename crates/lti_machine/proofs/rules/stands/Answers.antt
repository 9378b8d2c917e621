use Rattle.std.proofs.Common.{◌≡◌, nat_eq, false, sym, is_some}
use Rattle.std.specs.HashMap.{get}
use Rattle.lti_machine.specs.Nonces.{stamp_of_call}
use Rattle.lti_machine.specs.Places.{hash_of}
use Rattle.lti_machine.proofs.PlaceLemmas.{stands-not_indexed}
use Rattle.lti_machine.proofs.rules.stands.Goals as goal

pub returns-in-None : goal.returns-in-None
returns-in-None c =
    let none : is_some (get nat_eq c.args.places.now (hash_of c.args.call.now.key (stamp_of_call c.args.call.now))) ≡ false = rw (← c.hash_of.ensures, ← c.in-None.ensures.value) in
    sym (stands-not_indexed (get nat_eq c.args.places.now) c.args.entries.now c.args.call.now.key (stamp_of_call c.args.call.now) c.requires none)
