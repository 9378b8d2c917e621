use Rattle.std.proofs.Common.{ℕ, List, Bor, IfOk, IfErr, sym, subst}
use Rattle.lti_outside.specs.declared.text.Text.{Text}
use Rattle.pox_outcomes.specs.Language.{Any, Reads}
use Rattle.pox_outcomes.specs.Request.{IsTail}
use Rattle.pox_outcomes.specs.Stops.{IsHalt}
use Rattle.pox_outcomes.specs.declared.outcome.Operation.{Operation}
use Rattle.pox_outcomes.proofs.requests.tail.Goals as goal

pub returns-in-ReplaceResult-clause-reads : goal.returns-in-ReplaceResult-clause-reads
returns-in-ReplaceResult-clause-reads c =
    subst (λ (k : Operation). IfOk c.score.result (λ (found : Text × Bor (List ℕ)). Reads (IsTail k found.0) c.args.bytes.now found.1.now)) (sym c.in-ReplaceResult.is) c.score.ensures.reads

pub returns-in-ReplaceResult-clause-stops : goal.returns-in-ReplaceResult-clause-stops
returns-in-ReplaceResult-clause-stops c = subst (λ (k : Operation). IfErr c.score.result (IsHalt (Any (IsTail k)) c.args.bytes.now)) (sym c.in-ReplaceResult.is) c.score.ensures.stops

pub returns-in-ReadResult-clause-reads : goal.returns-in-ReadResult-clause-reads
returns-in-ReadResult-clause-reads c =
    subst (λ (k : Operation). IfOk c.no_score.result (λ (found : Text × Bor (List ℕ)). Reads (IsTail k found.0) c.args.bytes.now found.1.now)) (sym c.in-ReadResult.is) c.no_score.ensures.reads

pub returns-in-ReadResult-clause-stops : goal.returns-in-ReadResult-clause-stops
returns-in-ReadResult-clause-stops c = subst (λ (k : Operation). IfErr c.no_score.result (IsHalt (Any (IsTail k)) c.args.bytes.now)) (sym c.in-ReadResult.is) c.no_score.ensures.stops

pub returns-in-DeleteResult-clause-reads : goal.returns-in-DeleteResult-clause-reads
returns-in-DeleteResult-clause-reads c =
    subst (λ (k : Operation). IfOk c.no_score-in-DeleteResult.result (λ (found : Text × Bor (List ℕ)). Reads (IsTail k found.0) c.args.bytes.now found.1.now)) (sym c.in-DeleteResult.is) c.no_score-in-DeleteResult.ensures.reads

pub returns-in-DeleteResult-clause-stops : goal.returns-in-DeleteResult-clause-stops
returns-in-DeleteResult-clause-stops c = subst (λ (k : Operation). IfErr c.no_score-in-DeleteResult.result (IsHalt (Any (IsTail k)) c.args.bytes.now)) (sym c.in-DeleteResult.is) c.no_score-in-DeleteResult.ensures.stops
