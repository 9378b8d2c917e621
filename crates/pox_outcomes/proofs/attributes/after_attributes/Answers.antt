use Rattle.std.proofs.Common.{Bool, length, sym, ap, ◌∙◌, subst, arith, length-append}
use Rattle.pox_outcomes.specs.Markup.{is_white}
use Rattle.pox_outcomes.proofs.CarriedLemmas.{carried}
use Rattle.pox_outcomes.proofs.MarkupLemmas.{white_at}
use Rattle.pox_outcomes.proofs.RunLemmas.{IsOutside}
use Rattle.pox_outcomes.proofs.AttributeLemmas.{IsOpen, Along, attributes_stop, attributes_stop_dark, along_more, along_end, some_white_run, no_white}
use Rattle.pox_outcomes.proofs.attributes.after_attributes.Goals as goal

pub returns-in-Some-clause-reads : goal.returns-in-Some-clause-reads
returns-in-Some-clause-reads c =
    let w = white_at c.skip_white-dark.ensures in
    let found = c.in-Some.ensures in
    along_end _ c.attributes.seen _ w.run _ _ c.attributes.invariant w.are w.is found.0 found.1

pub returns-then-dark-rest-clause-stops : goal.returns-then-dark-rest-clause-stops
returns-then-dark-rest-clause-stops c =
    let rest = c.attributes.rest.now in
    let w = white_at c.skip_white-dark.ensures in
    let same = no_white rest w.run _ w.are c.if-dark-rest.true in
    c.attributes.invariant.stops (length rest) (attributes_stop_dark c.attributes.seen rest (subst (IsOutside is_white) same w.outside) (subst (IsOpen c.attributes.seen) same c.in_default.ensures))

pub returns-in_err-namespace-clause-stops : goal.returns-in_err-namespace-clause-stops
returns-in_err-namespace-clause-stops c =
    let w = white_at c.skip_white-dark.ensures in
    let some_white = some_white_run _ w.run _ w.are w.is c.if-dark-rest.false in
    carried _ _ _ c.from_residual.ensures.1 (c.attributes.invariant.stops _ (attributes_stop c.attributes.seen _ w.run _ _ w.are w.is some_white w.outside c.in_default.ensures c.in_err-namespace.ensures.stops))

pub attributes-smaller : goal.attributes-smaller
attributes-smaller c =
    let w = white_at {bytes = c.attributes.rest.now} c.skip_white-dark.ensures in
    let a = c.in_ok-namespace.ensures.reads in
    let other = c.if-dark-rest.false in
    let long = ap length w.are ∙ length-append w.run c.skip_white-dark.result.now in
    let more = ap length a.are ∙ length-append a.attribute c.in_ok-namespace.behind.now in
    omega (arith, long, more, other)

pub attributes-preserved : goal.attributes-preserved
attributes-preserved c =
    let w = white_at c.skip_white-dark.ensures in
    let some_white = some_white_run _ w.run _ w.are w.is c.if-dark-rest.false in
    subst (λ (t : Bool). Along c.args.bytes.now t c.in_ok-namespace.behind.now) (sym c.either-seen.ensures)
    (along_more _ c.attributes.seen _ _ w.run _ _ c.attributes.invariant w.are w.is some_white w.outside c.in_ok-namespace.ensures.reads)
