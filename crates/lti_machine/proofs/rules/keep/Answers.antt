use Rattle.std.proofs.Common.{rules, nat_eq, true, is_some, ◌≡◌, [], ◌∷◌, ◌++◌, arith, length-append}
use Rattle.std.specs.HashMap.{get}
use Rattle.lti_machine.specs.Nonces.{stamp_of}
use Rattle.lti_machine.specs.Places.{hash_of}
use Rattle.lti_machine.proofs.PlaceLemmas.{IsIndexed-push}
use Rattle.lti_machine.proofs.LiveLemmas.{NoRepeats-push, high-push}
use Rattle.lti_machine.proofs.rules.keep.Goals as goal

pub returns-clause-kept : goal.returns-clause-kept
returns-clause-kept c =
    let items : c.push.new.self.items ≡ c.args.entries.now.items ++ c.args.entry ∷ [] = search rules in
    rw items (record {
      alone = NoRepeats-push _ _ c.requires.kept.alone c.requires.new;
      short = simp length-append (omega (arith, c.requires.kept.short, c.len.ensures, c.if-len.false));
    })

pub returns-clause-high : goal.returns-clause-high
returns-clause-high c =
    let items : c.push.new.self.items ≡ c.args.entries.now.items ++ c.args.entry ∷ [] = search rules in
    rw items (high-push c.args.entries.now.items c.args.entry)

pub returns-clause-indexed : goal.returns-clause-indexed
returns-clause-indexed c =
    let items : c.push.new.self.items ≡ c.args.entries.now.items ++ c.args.entry ∷ [] = search rules in
    let at_result : is_some (get nat_eq c.set_place.new.places c.hash_of.result) ≡ true = search rules in
    let placed : is_some (get nat_eq c.set_place.new.places (hash_of c.args.entry.key (stamp_of c.args.entry))) ≡ true = rw (← c.hash_of.ensures) at_result in
    rw items (IsIndexed-push (get nat_eq c.set_place.new.places) c.args.entries.now.items c.args.entry (c.set_place.ensures.stay _ c.requires.indexed) placed)
