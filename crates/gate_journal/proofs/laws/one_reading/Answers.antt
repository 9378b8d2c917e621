use Rattle.std.proofs.Common.{sym, ◌∙◌, arith}
use Rattle.gate_journal.proofs.UniqueLemmas.{same_payloads, same_place}
use Rattle.gate_journal.proofs.laws.one_reading.Goals as goal

pub returns-clause-payloads : goal.returns-clause-payloads
returns-clause-payloads c = λ image half payloads others small r s.
    same_payloads image r.0 s.0 payloads others (r.1 ∙ sym s.1) (omega (arith, r.1, small)) r.2 s.2

pub returns-clause-place : goal.returns-clause-place
returns-clause-place c = λ image j k payloads others same small r s. same_place image j k payloads others same small r s
