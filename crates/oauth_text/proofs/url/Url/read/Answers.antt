use Rattle.oauth_text.proofs.url.Url.read.Goals as goal

pub invariant_of-result : goal.invariant_of-result
invariant_of-result c = record { reading = ∣ (c.as_bytes.result.now, c.in-Ok.ensures.found) ∣₁ }

pub returns-in-Err-clause-bad : goal.returns-in-Err-clause-bad
returns-in-Err-clause-bad c = λ fault parts is. c.in-Err.ensures.bad (cc) parts (rw c.as_bytes.ensures.value is)
