use Rattle.std.proofs.Common.{rules, ◌≤◌, length}
use Rattle.lti_machine.specs.Nonces.{live}
use Rattle.lti_machine.proofs.LiveLemmas.{length-live-le}
use Rattle.lti_machine.proofs.rules.judge.Goals as goal

pub returns-then-entries-window : goal.returns-then-entries-window
returns-then-entries-window c =
    let within : length (live c.args.entries.now c.args.call.now.key c.args.now) ≤ length c.args.entries.now = length-live-le c.args.entries.now c.args.call.now.key c.args.now in
    search rules
