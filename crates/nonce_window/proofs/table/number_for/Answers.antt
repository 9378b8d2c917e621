use Rattle.std.proofs.Common.{rules, ◌≡◌, ◌<◌, ◌++◌, ◌∷◌, [], ◌∙◌, ℕ, List, ap, subst}
use Rattle.std.specs.List.{AllByRecursion}
use Rattle.lti_machine.specs.Nonces.{Stamp}
use Rattle.nonce_window.specs.Nonces.{entries_of}
use Rattle.nonce_window.proofs.KeyLemmas.{number_last}
use Rattle.nonce_window.proofs.PlacedLemmas.{pushed_counts, same_entries}
use Rattle.nonce_window.proofs.table.number_for.Goals as goal

pub returns-clause-number : goal.returns-clause-number
returns-clause-number c =
    rw (c.in_ok-number.ensures.added, c.in_ok-number.ensures.number) (number_last c.args.keys.now c.args.key.now c.in_default.ensures)

pub returns-clause-counted : goal.returns-clause-counted
returns-clause-counted c = λ entries counted.
    let items : c.push_reserved.new.self.items ≡ c.args.counts.now.items ++ 0 ∷ [] = search rules in
    rw items (pushed_counts c.args.counts.now.items entries counted)

pub returns-clause-same : goal.returns-clause-same
returns-clause-same c = λ entries counted.
    ap (λ keys. entries_of keys entries) c.in_ok-number.ensures.added
    ∙ same_entries c.args.keys.now c.args.key.now entries (subst (λ n. AllByRecursion (λ (e : (ℕ × ℕ) × List Stamp). e.0.1 < n) entries) c.requires counted.numbered)
