use Rattle.std.proofs.Common.{inl, inr, sym, ◌∙◌}
use Rattle.pox_outcomes.proofs.NumberLemmas.{counts_more, counts_end, counts_stop, least_base}
use Rattle.pox_outcomes.proofs.references.number.Goals as goal

pub digits-preserved : goal.digits-preserved
digits-preserved c =
    counts_more c.args.base c.digits.value c.in-Some.next c.args.bytes.now c.digits.rest.now c.in-Some.others.now (least_base c.args.base c.requires).1 c.in-Some.ensures c.digits.invariant

pub returns-then-not-is_allowed-clause-stops : goal.returns-then-not-is_allowed-clause-stops
returns-then-not-is_allowed-clause-stops c =
    counts_stop c.args.base c.digits.value c.args.bytes.now c.digits.rest.now c.requires c.in_default.ensures (inl (sym c.is_allowed.ensures ∙ c.if-not-is_allowed.true)) c.digits.invariant

pub returns-in-Some-after_byte-clause-reads : goal.returns-in-Some-after_byte-clause-reads
returns-in-Some-after_byte-clause-reads c =
    counts_end c.args.base c.digits.value c.args.bytes.now c.digits.rest.now c.in-Some-after_byte.behind.now (sym c.is_allowed.ensures ∙ c.if-not-is_allowed.false) c.in-Some-after_byte.ensures c.digits.invariant

pub returns-in-None-clause-stops : goal.returns-in-None-clause-stops
returns-in-None-clause-stops c =
    counts_stop c.args.base c.digits.value c.args.bytes.now c.digits.rest.now c.requires c.in_default.ensures (inr c.in-None.ensures) c.digits.invariant
