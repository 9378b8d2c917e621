-- The entries of sound calls are in their bounds.
use Rattle.std.proofs.Common.{◌≤◌, List, [], ◌∷◌, length, All, ap, ⊎_elim, arith}
use Rattle.std.proofs.lemmas.List.Elements.{All-nil, All-cons, All-head, All-tail}
use Rattle.lti_machine.specs.EntryBytes.{IsBounded, IsInRange}
use Rattle.lti_machine.specs.Rules.{high, now_of, entry_of}
use Rattle.lti_machine.specs.Sound.{greatest_moment, IsSound}
use Rattle.lti_machine.specs.declared.call.Call.{Call}
use Rattle.lti_machine.specs.declared.entry.Entry.{Entry}
use Rattle.lti_machine.specs.declared.reply.Reply.{Reply}

high_bounded : (entries : List Entry) → All IsBounded entries → high entries ≤ greatest_moment
high_bounded [] all = omega arith
high_bounded (e ∷ es) all = omega (arith, (All-head IsBounded e es all).moment, high_bounded es (All-tail IsBounded e es all))

pub accepted_bounded : (entries : List Entry) (call : Call) (given : Reply) → All IsBounded entries → IsSound call → IsBounded (entry_of call given (now_of entries call))
accepted_bounded entries call given all sound =
    let moment : now_of entries call ≤ greatest_moment = omega (arith, high_bounded entries all, sound.moment) in
    ⊎_elim
    (λ stamped. record {
      moment = moment;
      timestamp = stamped.timestamp.1;
      key = sound.key.1;
      nonce = stamped.nonce.1;
      stamped = (λ none. absurd (omega (arith, stamped.nonce.0, ap length none)), λ zero. absurd (omega (arith, stamped.timestamp.0, zero)));
    })
    (λ unstamped. record {
      moment = moment;
      timestamp = omega (arith, unstamped.timestamp);
      key = sound.key.1;
      nonce = omega (arith, ap length unstamped.nonce);
      stamped = (λ _. unstamped.timestamp, λ _. unstamped.nonce);
    })
    sound.stamp

-- what is in range is in its bounds
pub all_bounded : (entries : List Entry) → All IsInRange entries → All IsBounded entries
all_bounded [] all = All-nil IsBounded
all_bounded (e ∷ es) all = All-cons IsBounded e es (All-head IsInRange e es all).bounded (all_bounded es (All-tail IsInRange e es all))
