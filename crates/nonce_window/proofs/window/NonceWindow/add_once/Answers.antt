use Rattle.std.proofs.Common.{◌≡◌, ◌<◌, ◌/◌, max, true, ap, sym, ◌∙◌, arith, refl}
use Rattle.std.proofs.lemmas.Bool.Decides.{nat_tests}
use Rattle.lti_machine.specs.declared.entry.Entry.{Entry}
use Rattle.lti_machine.specs.Nonces.{Stamp, stamp_of, stands}
use Rattle.nonce_window.specs.Fresh.{first_at}
use Rattle.nonce_window.specs.Nonces.{plain}
use Rattle.nonce_window.specs.Window.{WindowValue}
use Rattle.nonce_window.proofs.HeldLemmas.{same_later, same_pushed}
use Rattle.nonce_window.proofs.KnownLemmas.{live-added}
use Rattle.nonce_window.proofs.PushLemmas.{live-push_there}
use Rattle.nonce_window.proofs.WindowLemmas.{live_forgotten}
use Rattle.nonce_window.proofs.window.NonceWindow.add_once.Goals as goal

pub returns-then-timestamp-first_minute-clause-added : goal.returns-then-timestamp-first_minute-clause-added
returns-then-timestamp-first_minute-clause-added c =
    let window = c.args.self.now in
    let later = max window.high c.args.moment in
    record {
      high = refl;
      limit = refl;
      lists = λ entries entry held keys stamps k.
          let high = ap (λ (w : WindowValue). w.high) c.self.view_is in
          let time = ap (λ (s : Stamp). s.timestamp) stamps in
          let gone : entry.timestamp / 60 < first_at later = grind (arith, nat_tests, c.if-timestamp-first_minute.true, c.first_minute.ensures, c.max.ensures, high, time) in
          same_later window.known entries k window.high later (omega arith) (held k) ∙ sym (live_forgotten entries entry later gone k);
    }

pub returns-then-stands-clause-added : goal.returns-then-stands-clause-added
returns-then-stands-clause-added c =
    let window = c.args.self.now in
    let later = max window.high c.args.moment in
    record {
      high = refl;
      limit = refl;
      lists = λ entries entry held keys stamps k.
          let there : stands window.known entry.key (stamp_of entry) ≡ true = (λ i. stands window.known (keys i) (stamps i)) ∙ sym c.if-stands.ensures in
          live-push_there window.known entry k later there
          ∙ same_pushed window.known entries entry entry k later (same_later window.known entries k window.high later (omega arith) (held k)) refl refl;
    }

pub returns-clause-added : goal.returns-clause-added
returns-clause-added c =
    let window = c.args.self.now in
    let later = max window.high c.args.moment in
    let entry' : Entry = plain c.args.key.now (record { timestamp = c.args.timestamp; nonce = c.args.nonce.now }) in
    record {
      high = c.in_ok-put.ensures.put.high;
      limit = c.in_ok-put.ensures.put.limit;
      lists = λ entries entry held keys stamps k.
          live-added window.known c.put.new.self.known entry' c.in_ok-put.ensures.put.known k later
          ∙ same_pushed window.known entries entry' entry k later (same_later window.known entries k window.high later (omega arith) (held k)) (sym keys) (sym stamps);
    }
