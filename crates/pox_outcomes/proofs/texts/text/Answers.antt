use Rattle.std.proofs.Common.{ℕ, List, sym, ◌∙◌, subst}
use Rattle.pox_outcomes.specs.Language.{Reads}
use Rattle.pox_outcomes.specs.Markup.{is_white, BeginsOtherwise}
use Rattle.pox_outcomes.specs.Texts.{IsText}
use Rattle.pox_outcomes.proofs.CarriedLemmas.{carried, halts}
use Rattle.pox_outcomes.proofs.MarkupLemmas.{white_of, white_at}
use Rattle.pox_outcomes.proofs.RunLemmas.{IsOutside}
use Rattle.pox_outcomes.proofs.TextLemmas.{Spells, spells_start, reads_empty, spells_more, spells_end, spells_stop, spells_stop_behind}
use Rattle.pox_outcomes.proofs.texts.text.Goals as goal

pub returns-in-Some-clause-reads : goal.returns-in-Some-clause-reads
returns-in-Some-clause-reads c =
    let w = white_at c.skip_white-rest.ensures in
    subst (λ (t : List ℕ). Reads (IsText t) c.args.bytes.now c.in-Some.behind.now) (sym (c.from_string.ensures ∙ c.new-text.ensures.bytes)) (reads_empty _ w.run _ _ w.are w.is c.in-Some.ensures)

pub units-init : goal.units-init
units-init c =
    let w = white_at c.skip_white-rest.ensures in
    subst (λ (t : List ℕ). Spells c.args.bytes.now t c.skip_white-rest.result.now) (sym c.new-text.ensures.bytes) (spells_start _ w.run _ w.are w.is w.outside c.in_default.ensures)

pub returns-in_err-end-clause-stops : goal.returns-in_err-end-clause-stops
returns-in_err-end-clause-stops c = carried _ _ _ c.from_residual.ensures.1 (halts _ c.in_err-end.ensures.stops (λ n s. spells_stop _ _ _ n c.units.invariant s))

pub returns-in-Some-after_byte-clause-reads : goal.returns-in-Some-after_byte-clause-reads
returns-in-Some-after_byte-clause-reads c =
    let w = white_at c.skip_white.ensures in
    subst (λ (t : List ℕ). Reads (IsText t) c.args.bytes.now c.in-Some-after_byte.behind.now) (sym c.from_string-in-Some-after_byte.ensures)
    (spells_end _ _ _ _ _ w.run _ _ c.units.invariant c.in_ok-end.ensures.reads w.are w.is c.in-Some-after_byte.ensures)

pub returns-in_err-rest-clause-stops : goal.returns-in_err-rest-clause-stops
returns-in_err-rest-clause-stops c =
    carried _ _ _ c.from_residual-in_err-rest.ensures.1 (halts _ c.in_err-rest.ensures.stops (λ n s. spells_stop_behind _ _ _ _ _ n c.units.invariant c.in_ok-end.ensures.reads s))

pub units-preserved : goal.units-preserved
units-preserved c =
    let pushes = c.in_ok-rest.ensures.reads in
    let outside = subst (IsOutside is_white) (sym pushes.0) (white_of c.in_ok-end.end.now).outside in
    spells_more _ _ _ _ _ _ _ c.units.invariant c.in_ok-end.ensures.reads pushes.1 outside (subst (BeginsOtherwise 60) (c.skip_white.ensures ∙ sym pushes.0) c.in_default-after_byte.ensures)
