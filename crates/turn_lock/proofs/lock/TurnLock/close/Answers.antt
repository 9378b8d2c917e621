use Rattle.std.proofs.Common.{◌≡◌, ◌∙◌, ◌+◌, ap, sym, subst, length}
use Rattle.turn_lock.specs.Views.{ticketed, size}
use Rattle.turn_lock.specs.Owned.{in_places, in_numbers, in_spare}
use Rattle.turn_lock.proofs.Numbering.{count_whole}
use Rattle.turn_lock.proofs.Closing.{closes, Closed}
use Rattle.turn_lock.proofs.lock.TurnLock.close.Goals as goal

module _ (g : _) (c : goal.After-free g) where
  learns : Closed g.K.Kept c.self.inside.table.shared.key.kept.value c.self.inside.table.shared.key.first c.into_seat-seat.result.0.me.0 c.take-kept.result
  learns =
      let it = c.into_seat-seat.ensures in
      let v = c.into_seat-seat.result.0.me.0 in
      let first : c.args.pass.first ≡ c.self.inside.table.shared.key.first = c.requires.pass.2 ∙ sym (ap (λ l. l.first) c.self.view_is) in
      let whole : size v ≡ c.self.inside.table.shared.key.first + 1 =
      (λ i. length (it.own_is i) + (it.rests.spare_is ∙ it.spare_is) i) ∙ c.requires.whole ∙ ap (λ n. n + 1) first in
      closes _ _ _ _ _ _ _ _ c.close_with-closed.ensures.values.2 (ap ticketed it.rests.idle) whole c.take-kept.ensures.value

pub returns-clause-origin : goal.returns-clause-origin
returns-clause-origin g c = (learns g c).origin_is ∙ ap (λ l. g.K.Kept.origin l.base) c.self.view_is

pub returns-clause-limit : goal.returns-clause-limit
returns-clause-limit g c = (learns g c).limit_is ∙ ap (λ l. g.K.Kept.limit l.base) c.self.view_is

pub returns-clause-trail : goal.returns-clause-trail
returns-clause-trail g c = (learns g c).trail_is ∙ c.into_seat-seat.ensures.seen_is

pub returns-clause-places : goal.returns-clause-places
returns-clause-places g c = λ p. ap (in_places p) (sym c.into_seat-seat.ensures.own_is) ∙ (learns g c).places p

pub returns-clause-law : goal.returns-clause-law
returns-clause-law g c =
    let it = c.into_seat-seat.ensures in
    let law = it.rests.lawful c.args.self.base (it.base_is ∙ c.requires.pass.1) in
    let trail_is = (learns g c).trail_is in
    let origin_is = (learns g c).origin_is ∙ ap (λ l. g.K.Kept.origin l.base) c.self.view_is in
    subst (λ o. g.K.Kept.law o (g.K.Kept.trail c.take-kept.result)) (sym origin_is) (subst (λ xs. g.K.Kept.law (g.K.Kept.origin c.args.self.base) xs) (sym trail_is) law)

pub returns-clause-numbers : goal.returns-clause-numbers
returns-clause-numbers g c = λ k.
    let it = c.into_seat-seat.ensures in
    let seat = c.into_seat-seat.result.0 in
    let spare = c.into_seat-seat.result.1 in
    (λ i. in_numbers k (sym it.own_is i) + in_spare k (sym it.spare_is i))
    ∙ count_whole seat.me.0.own spare (c.args.pass.first + 1) it.rests.once ((λ i. length (it.own_is i) + it.spare_is i) ∙ c.requires.whole) k
