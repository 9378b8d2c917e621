use Rattle.std.proofs.Common.{rules, ◌≡◌, ◌∙◌, ◌++◌, ◌^◌, ◌<◌, ℕ, ap, sym, subst, [], ◌∷◌}
use Rattle.std.proofs.Math.Nat.{mod-eq_of_lt}
use Rattle.turn_lock.specs.Rule.{Turns}
use Rattle.turn_lock.specs.Views.{opened}
use Rattle.atomic_table.specs.Table.{opening}
use Rattle.turn_lock.proofs.Opening.{opens}
use Rattle.turn_lock.proofs.Rested.{opened_rests}
use Rattle.turn_lock.proofs.lock.TurnLock.new.Goals as goal

pub new-requires : goal.new-requires
new-requires g c =
    let k = c.args.kept in
    let same = c.of.ensures in
    let n = c.from.ensures in
    let begin = c.turns-begin.result in
    let fits : begin < 2 ^ 64 = search rules in
    let items = c.push_reserved.ensures.items ∙ ap (λ l. l ++ k ∷ []) (c.in-Ok.ensures {u = tt}).items in
    subst (λ (z : _ × ℕ). Turns g.K.Kept z.0 z.1 (opening (begin ∷ begin ∷ []) c.push_reserved.new.self.items (opened z.0 z.1)))
    (λ i. (sym same i, sym n i))
    (opens g.K.Kept k c.args.spare begin _ items c.requires.spare c.requires.trail (sym c.turns-begin.ensures.turns) (mod-eq_of_lt fits))

pub invariant_of-pass : goal.invariant_of-pass
invariant_of-pass g c =
    let of : _ ≡ c.args.kept = c.of.ensures in
    let n = c.from.ensures in
    opened_rests g.K.Kept c.in-Ok-new.seat c.args.kept c.args.spare (c.in-Ok-new.ensures.ok.4 ∙ (λ i. (opened (of i) (n i), []))) c.requires.spare c.turns-begin.ensures.law c.requires.trail
