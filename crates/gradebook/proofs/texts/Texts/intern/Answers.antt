use Rattle.std.proofs.Common.{◌≡◌, true, sym, ◌∙◌, subst}
use Rattle.std.specs.List.{list_any}
use Rattle.std.specs.String.{string_bytes}
use Rattle.std.specs.Str.{bytes_eq}
use Rattle.gradebook.proofs.TextLemmas.{known_from_any}
use Rattle.gradebook.proofs.texts.Texts.intern.Goals as goal

pub returns-then-contains-clause-known : goal.returns-then-contains-clause-known
returns-then-contains-clause-known c = rw (sym c.self.view_is) (known_from_any string_bytes c.self.inside.texts.keys c.args.text.now (sym c.contains.ensures ∙ c.if-contains.true))

pub returns-clause-known : goal.returns-clause-known
returns-clause-known c =
    let keys = c.insert.new.self.keys in
    known_from_any string_bytes keys c.args.text.now
    (subst (λ text. list_any (λ k. bytes_eq text (string_bytes k)) keys ≡ true) c.in_ok-text.ensures.ok c.in_ok-insert.ensures.updates.1)
