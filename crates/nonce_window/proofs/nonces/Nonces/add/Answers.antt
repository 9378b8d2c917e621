use Rattle.std.proofs.Common.{◌<◌, ◌+◌, ◌-◌, ◌^◌, ◌∙◌, sym, ap, subst, count_by, arith, set}
use Rattle.std.proofs.lemmas.List.{length-set}
use Rattle.lti_machine.specs.Nonces.{Stamp, stands, is_of_key}
use Rattle.nonce_window.specs.Added.{IsAdded}
use Rattle.nonce_window.specs.Nonces.{AreCounted, entries_of, plain}
use Rattle.nonce_window.proofs.AddLemmas.{IsBegun, known_new, known_room, count_below, added_entry, added_table, added_counted, at_zero, begun_within}
use Rattle.nonce_window.proofs.nonces.Nonces.add.Goals as goal

pub add_at-requires-clause-new : goal.add_at-requires-clause-new
add_at-requires-clause-new c =
    let keys = c.number_for.new.keys in
    let table = c.self.inside.table.entries in
    let counted = c.in_ok-number.ensures.counted table c.self.invariant.counted in
    let begun : IsBegun keys c.number_for.new.counts.items table c.args.key.now c.in_ok-number.number = record { is = c.in_ok-number.ensures.number; long = c.in_ok-number.ensures.long; counted = counted; sound = c.self.invariant.table } in
    let same = c.in_ok-number.ensures.same table c.self.invariant.counted ∙ c.self.view_is in
    known_new keys c.number_for.new.counts.items table c.args.key.now c.in_ok-number.number begun c.args.timestamp c.args.nonce.now
    (ap (λ es. stands es c.args.key.now (record { timestamp = c.args.timestamp; nonce = c.args.nonce.now })) same ∙ c.requires.new)

pub add_at-requires-clause-room : goal.add_at-requires-clause-room
add_at-requires-clause-room c =
    let keys = c.number_for.new.keys in
    let table = c.self.inside.table.entries in
    let counted = c.in_ok-number.ensures.counted table c.self.invariant.counted in
    let begun : IsBegun keys c.number_for.new.counts.items table c.args.key.now c.in_ok-number.number = record { is = c.in_ok-number.ensures.number; long = c.in_ok-number.ensures.long; counted = counted; sound = c.self.invariant.table } in
    let same = c.in_ok-number.ensures.same table c.self.invariant.counted ∙ c.self.view_is in
    known_room keys c.number_for.new.counts.items table c.args.key.now c.in_ok-number.number begun c.args.timestamp (2 ^ 32 - 1)
    (subst (λ es. count_by (is_of_key c.args.key.now) es < 2 ^ 32 - 1) (sym same) c.requires.room)

pub overflow_add-index_mut : goal.overflow_add-index_mut
overflow_add-index_mut c =
    let keys = c.number_for.new.keys in
    let table = c.self.inside.table.entries in
    let counted = c.in_ok-number.ensures.counted table c.self.invariant.counted in
    let begun : IsBegun keys c.number_for.new.counts.items table c.args.key.now c.in_ok-number.number = record { is = c.in_ok-number.ensures.number; long = c.in_ok-number.ensures.long; counted = counted; sound = c.self.invariant.table } in
    let same = c.in_ok-number.ensures.same table c.self.invariant.counted ∙ c.self.view_is in
    let below = count_below keys c.number_for.new.counts.items table c.args.key.now c.in_ok-number.number begun (2 ^ 32 - 1)
    (subst (λ es. count_by (is_of_key c.args.key.now) es < 2 ^ 32 - 1) (sym same) c.requires.room) in
    let read = at_zero c.number_for.new.counts.items c.in_ok-number.number c.index_mut.result.now (begun_within keys c.number_for.new.counts.items table c.args.key.now c.in_ok-number.number begun) c.index_mut.ensures.value in
    omega (arith, read, below)

pub invariant_of-self-2 : goal.invariant_of-self-2
invariant_of-self-2 c =
    let keys = c.number_for.new.keys in
    let counts = c.number_for.new.counts.items in
    let table = c.self.inside.table.entries in
    let counted = c.in_ok-number.ensures.counted table c.self.invariant.counted in
    let begun : IsBegun keys counts table c.args.key.now c.in_ok-number.number = record { is = c.in_ok-number.ensures.number; long = c.in_ok-number.ensures.long; counted = counted; sound = c.self.invariant.table } in
    let after = c.add_at.new.table.entries in
    let read = at_zero counts c.in_ok-number.number c.index_mut.result.now (begun_within keys counts table c.args.key.now c.in_ok-number.number begun) c.index_mut.ensures.value in
    record {
      table = added_table keys counts table c.args.key.now c.in_ok-number.number begun c.args.timestamp c.args.nonce.now after c.in_ok-add_at.ensures.placed c.ranges.timestamp.fits c.requires.signed c.in_ok-add_at.ensures.ordered;
      counted = subst (λ n. AreCounted (set counts c.in_ok-number.number (n + 1)) after) (sym read) (added_counted keys counts table c.args.key.now c.in_ok-number.number begun c.args.timestamp c.args.nonce.now after c.in_ok-add_at.ensures.placed);
      long = length-set counts c.in_ok-number.number (c.index_mut.result.now + 1) ∙ c.in_ok-number.ensures.long;
    }

pub returns-clause-added : goal.returns-clause-added
returns-clause-added c =
    let keys = c.number_for.new.keys in
    let table = c.self.inside.table.entries in
    let counted = c.in_ok-number.ensures.counted table c.self.invariant.counted in
    let begun : IsBegun keys c.number_for.new.counts.items table c.args.key.now c.in_ok-number.number = record { is = c.in_ok-number.ensures.number; long = c.in_ok-number.ensures.long; counted = counted; sound = c.self.invariant.table } in
    let same = c.in_ok-number.ensures.same table c.self.invariant.counted ∙ c.self.view_is in
    let stamp : Stamp = record { timestamp = c.args.timestamp; nonce = c.args.nonce.now } in
    subst (λ es. IsAdded es (plain c.args.key.now stamp) (entries_of keys c.add_at.new.table.entries)) same
    (added_entry keys c.number_for.new.counts.items table c.args.key.now c.in_ok-number.number begun c.args.timestamp c.args.nonce.now c.add_at.new.table.entries c.in_ok-add_at.ensures.placed)
