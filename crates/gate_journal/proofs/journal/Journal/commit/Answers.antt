use Rattle.std.proofs.Common.{List, ℕ, [], ◌∷◌, ◌++◌, refl, subst}
use Rattle.gate_journal.specs.Half.{payload_of}
use Rattle.gate_journal.specs.Changes.{Changes}
use Rattle.gate_journal.proofs.ChangeLemmas.{untouched}
use Rattle.gate_journal.proofs.journal.Journal.commit.Goals as goal

pub returns-then-bytes-free-clause-crash : goal.returns-then-bytes-free-clause-crash
returns-then-bytes-free-clause-crash g c = λ payloads keeps.
    untouched {g = g.D.Disk} c.args.self.now _ payloads (payloads ++ payload_of c.args.framed.now.list ∷ []) g.met.D.Disk.only_now refl c.requires.settled keeps

pub returns-clause-crash : goal.returns-clause-crash
returns-clause-crash g c = λ payloads keeps.
    subst (λ (l : List ℕ). Changes {g = g.D.Disk} c.args.self.now c.open_piece.new.self c.open_piece.result payloads (payloads ++ payload_of l ∷ [])) c.get-bytes.ensures (c.open_piece.ensures.crash payloads keeps)
