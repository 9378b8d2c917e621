use Rattle.std.proofs.Common.{sym}
use Rattle.std.specs.String.{string_bytes}
use Rattle.gradebook.proofs.TextLemmas.{number_found, number_missing}
use Rattle.gradebook.proofs.texts.Texts.number.Goals as goal

pub returns-in-Some : goal.returns-in-Some
returns-in-Some c = rw (sym c.self.view_is) (number_found string_bytes c.self.inside.texts.keys c.args.text.now c.in-Some.place c.self.invariant.0 (sym c.in-Some.ensures.index))

pub returns-in-None : goal.returns-in-None
returns-in-None c = rw (sym c.self.view_is) (number_missing string_bytes c.self.inside.texts.keys c.args.text.now (sym c.in-None.ensures.found))
