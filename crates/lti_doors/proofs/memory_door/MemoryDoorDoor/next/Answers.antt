-- The connection that is handed out stood first among those that wait, which are all fresh.
use Rattle.std.proofs.Common.{◌∷◌, map, refl, sym, ap, subst, arith, All}
use Rattle.std.proofs.lemmas.List.Elements.{All-head, All-tail}
use Rattle.std.proofs.lemmas.Grind.{common_steps}
use Rattle.lti_outside.specs.Memory.{link_traffic}
use Rattle.lti_outside.specs.declared.memory_link.MemoryLink.{MemoryLink}
use Rattle.lti_doors.specs.Standing.{IsFresh}
use Rattle.lti_doors.proofs.memory_door.MemoryDoorDoor.next.Goals as goal

abbrev IsNew : MemoryLink → Type 0
IsNew link = IsFresh (link_traffic link)

pub invariant_of-self-in-Some : goal.invariant_of-self-in-Some
invariant_of-self-in-Some c =
    let first = c.in-Some.ensures.items in
    let all : All IsNew (c.in-Some.end ∷ c.pop_front.new.self.items) = subst (All IsNew) first c.self.invariant.1 in
    (grind (arith, common_steps), All-tail IsNew c.in-Some.end c.pop_front.new.self.items all)

pub returns-in-Some-clause-some : goal.returns-in-Some-clause-some
returns-in-Some-clause-some c =
    let first = c.in-Some.ensures.items in
    let all : All IsNew (c.in-Some.end ∷ c.pop_front.new.self.items) = subst (All IsNew) first c.self.invariant.1 in
    rw (sym c.self.view_is) (
      All-head IsNew c.in-Some.end c.pop_front.new.self.items all,
      ((map link_traffic c.pop_front.new.self.items, ap (map link_traffic) first, refl), refl),
    )
