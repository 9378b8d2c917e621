use Rattle.std.proofs.Common.{◌≤◌, ◌<◌, ◌/◌, ◌&&◌, ◌∙◌, sym, ap, subst, nat_le, count_by, arith, length}
use Rattle.std.specs.List.{AllByRecursion, list_any}
use Rattle.lti_machine.specs.Nonces.{is_of_key}
use Rattle.lti_machine.specs.declared.entry.Entry.{Entry}
use Rattle.nonce_window.proofs.AddLemmas.{at_zero}
use Rattle.nonce_window.proofs.SoundLemmas.{good, numbered, entries_from}
use Rattle.nonce_window.proofs.TableLemmas.{counts_found, none_found, count_none}
use Rattle.nonce_window.proofs.nonces.Nonces.count.Goals as goal

pub returns-in_default : goal.returns-in_default
returns-in_default c =
    sym (count_none (λ e. is_of_key c.args.key.now e && nat_le c.args.last (e.timestamp / 60)) c.args.self.now
    (ap (λ es. list_any (λ e. is_of_key c.args.key.now e && nat_le c.args.last (e.timestamp / 60)) es) (sym c.self.view_is)
    ∙ none_found c.self.inside.keys c.args.key.now c.in_default.ensures (λ e. nat_le c.args.last (e.timestamp / 60)) c.self.inside.table.entries (numbered c.self.inside c.self.invariant)))

pub count_from-requires-clause-all : goal.count_from-requires-clause-all
count_from-requires-clause-all c =
    let within : c.in-Some.number < length c.self.inside.counts.items = omega (arith, c.in-Some.ensures.within, c.self.invariant.long) in
    at_zero c.self.inside.counts.items c.in-Some.number c.index.result.now within c.index.ensures
    ∙ c.self.invariant.counted.totals c.in-Some.number
    ∙ entries_from c.self.inside.keys c.in-Some.number c.args.first c.self.inside.table.entries c.self.invariant.table.within (subst (AllByRecursion (λ (e : Entry). c.args.first ≤ e.timestamp / 60)) (sym c.self.view_is) c.requires.from)

pub returns : goal.returns
returns c =
    c.count_from.ensures
    ∙ sym (counts_found c.self.inside.keys c.args.key.now c.in-Some.number c.in-Some.ensures c.args.last c.self.inside.table.entries (good c.self.inside c.self.invariant))
    ∙ ap (count_by (λ e. is_of_key c.args.key.now e && nat_le c.args.last (e.timestamp / 60))) c.self.view_is
