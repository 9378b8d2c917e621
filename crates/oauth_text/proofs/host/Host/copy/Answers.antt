use Rattle.oauth_text.proofs.host.Host.copy.Goals as goal

pub invariant_of-result : goal.invariant_of-result
invariant_of-result c = rw c.in_ok-copy.ensures (record { reading = c.args.self.now.reading })
