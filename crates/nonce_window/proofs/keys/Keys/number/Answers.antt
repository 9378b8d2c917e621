use Rattle.std.proofs.Common.{sym}
use Rattle.std.specs.String.{string_bytes}
use Rattle.nonce_window.proofs.KeyLemmas.{number_found, number_missing}
use Rattle.nonce_window.proofs.keys.Keys.number.Goals as goal

pub returns-in-Some : goal.returns-in-Some
returns-in-Some c = rw (sym c.self.view_is) (number_found string_bytes c.self.inside.keys.keys c.args.key.now c.in-Some.place c.self.invariant.0 (sym c.in-Some.ensures.index))

pub returns-in-None : goal.returns-in-None
returns-in-None c = rw (sym c.self.view_is) (number_missing string_bytes c.self.inside.keys.keys c.args.key.now (sym c.in-None.ensures.found))
