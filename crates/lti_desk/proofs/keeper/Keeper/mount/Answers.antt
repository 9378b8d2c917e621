use Rattle.std.proofs.Common.{◌≡◌, ℕ, List, sym, ap, ◌∙◌, subst}
use Rattle.gate_journal.specs.Half.{Recovers}
use Rattle.gate_journal.specs.Journal.{Keeps, place_of}
use Rattle.gate_journal.specs.Pieces.{payloads_of}
use Rattle.gate_journal.specs.declared.piece.Piece.{Piece}
use Rattle.lti_desk.specs.Keeper.{payloads}
use Rattle.lti_desk.specs.Reading.{AreEntries}
use Rattle.lti_desk.proofs.MountLemmas.{entries-in_range, entries-payloads}
use Rattle.lti_desk.proofs.keeper.Keeper.mount.Goals as goal

pub returns-in-Ok-clause-known : goal.returns-in-Ok-clause-known
returns-in-Ok-clause-known g c =
    let found = c.in-Ok.ensures.entries in
    let same : payloads_of c.in_ok-journal.pieces.items ≡ payloads found.0 = ap payloads_of (sym c.deref.ensures.value) ∙ entries-payloads c.deref.result.now found.0 found.1 in (
      found.0,
      rw c.of-read.ensures (subst (λ (ps : List Piece). AreEntries ps found.0) c.deref.ensures.value found.1),
      record { holds = found.2; in_range = entries-in_range c.deref.result.now found.0 found.1 },
      λ tells. (
        subst (λ (p : List (List ℕ)). Recovers (g.D.Disk.seen c.args.disk) (place_of c.in_ok-journal.journal) p) same (c.in_ok-journal.ensures.recovers tells),
        (
          c.in_ok-journal.ensures.settled,
          subst (λ (p : List (List ℕ)). Keeps {g = g.D.Disk} c.in_ok-journal.journal p) same (c.in_ok-journal.ensures.keeps tells),
        ),
      ),
    )
