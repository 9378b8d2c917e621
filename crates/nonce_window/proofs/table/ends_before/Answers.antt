use Rattle.nonce_window.proofs.PlacedLemmas.{none_from_last}
use Rattle.nonce_window.proofs.table.ends_before.Goals as goal

pub returns-in-Some : goal.returns-in-Some
returns-in-Some c = λ below number. none_from_last c.args.table.now.entries c.in-Some.place.now c.args.last number below c.in-Some.ensures.all_up_to
