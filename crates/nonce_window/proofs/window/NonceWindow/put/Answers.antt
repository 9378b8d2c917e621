use Rattle.std.proofs.Common.{◌≡◌, ◌≤◌, ◌<◌, ◌-◌, ◌^◌, ◌/◌, ap, sym, ◌∙◌, arith, subst, refl, length, false, IfSome}
use Rattle.std.proofs.lemmas.Bool.Decides.{nat_tests}
use Rattle.lti_machine.specs.Nonces.{stamp_of, live, stands}
use Rattle.lti_machine.specs.declared.entry.Entry.{Entry}
use Rattle.nonce_window.specs.Window.{WindowValue}
use Rattle.nonce_window.specs.Fresh.{IsKnown, IsNext, first_at}
use Rattle.nonce_window.specs.Last.{with_last}
use Rattle.nonce_window.specs.Nonces.{plain}
use Rattle.nonce_window.proofs.WindowLemmas.{put_room, stands_nonces, next_added}
use Rattle.nonce_window.proofs.KnownLemmas.{known_added}
use Rattle.nonce_window.proofs.window.NonceWindow.put.Goals as goal

pub add-requires-clause-room : goal.add-requires-clause-room
add-requires-clause-room c =
    let room : length (live (with_last c.self.inside.nonces c.self.inside.last) c.args.key.now c.self.inside.highest) < 2 ^ 32 - 1 =
    subst (λ (w : WindowValue). length (live w.known c.args.key.now w.high) < 2 ^ 32 - 1) (sym c.self.view_is) (c.requires.room c.args.self.now.known (λ key. refl)) in
    (put_room c.self.inside.nonces c.self.inside.last c.self.inside.highest c.args.key.now c.self.invariant.known c.self.invariant.next room).0

pub invariant_of-self : goal.invariant_of-self
invariant_of-self c = record {
  known = subst (λ l. IsKnown l c.self.inside.highest) (sym c.in_err-add.ensures.err) c.self.invariant.known;
  next = subst (λ l. IfSome c.self.inside.last (IsNext l c.self.inside.highest)) (sym c.in_err-add.ensures.err) c.self.invariant.next;
  idle = c.self.invariant.idle;
}

pub invariant_of-self-2 : goal.invariant_of-self-2
invariant_of-self-2 c =
    let nonces = c.self.inside.nonces in
    let last = c.self.inside.last in
    let high = c.self.inside.highest in
    let entry : Entry = plain c.args.key.now (record { timestamp = c.args.timestamp; nonce = c.args.nonce.now }) in
    let room : length (live (with_last nonces last) c.args.key.now high) < 2 ^ 32 - 1 =
    subst (λ (w : WindowValue). length (live w.known c.args.key.now w.high) < 2 ^ 32 - 1) (sym c.self.view_is) (c.requires.room c.args.self.now.known (λ key. refl)) in
    let rooms = put_room nonces last high c.args.key.now c.self.invariant.known c.self.invariant.next room in
    let new : stands (with_last nonces last) c.args.key.now (stamp_of entry) ≡ false = ap (λ (w : WindowValue). stands w.known c.args.key.now (stamp_of entry)) c.self.view_is ∙ c.requires.new in
    let fresh : first_at high ≤ c.args.timestamp / 60 = subst (λ (w : WindowValue). first_at w.high ≤ c.args.timestamp / 60) (sym c.self.view_is) c.requires.fresh in
    let next : IsNext nonces high entry = record { signed = grind (arith, nat_tests, c.requires.nonce); fresh = fresh; new = stands_nonces nonces last c.args.key.now (stamp_of entry) new; room = rooms.0 } in
    record {
      known = known_added nonces c.add.new.self high entry c.self.invariant.known next c.in_ok-add.ensures.added;
      next = next_added nonces c.add.new.self last high entry c.self.invariant.next c.in_ok-add.ensures.added new rooms.1;
      idle = c.self.invariant.idle;
    }
