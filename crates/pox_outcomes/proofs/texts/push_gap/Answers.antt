use Rattle.std.proofs.Common.{◌++◌, ℕ, List, sym, ap, ◌∙◌, subst}
use Rattle.std.specs.List.{list_all}
use Rattle.std.specs.String.{string_bytes}
use Rattle.pox_outcomes.specs.Markup.{BeginsOtherwise}
use Rattle.pox_outcomes.specs.Texts.{is_gap}
use Rattle.pox_outcomes.proofs.MarkupLemmas.{white_at}
use Rattle.pox_outcomes.proofs.TextLemmas.{return_stops}
use Rattle.pox_outcomes.proofs.Utf8Lemmas.{utf8_gap, front_taken, rest_fits}
use Rattle.pox_outcomes.proofs.texts.push_gap.Goals as goal

pub slice_bounds-gap-count : goal.slice_bounds-gap-count
slice_bounds-gap-count c = let w = white_at c.skip_white-rest.ensures in rest_fits _ w.run _ w.are

pub returns-then-not-is_gap-clause-stops : goal.returns-then-not-is_gap-clause-stops
returns-then-not-is_gap-clause-stops c =
    let w = white_at c.skip_white-rest.ensures in
    let fails = ap (list_all is_gap) (sym (front_taken _ w.run _ w.are)) ∙ sym c.is_gap.ensures ∙ c.if-not-is_gap.true in
    return_stops _ w.run _ w.are w.is fails w.outside (subst (BeginsOtherwise 60) (sym c.skip_white-rest.ensures) c.requires)

pub push_bytes-requires : goal.push_bytes-requires
push_bytes-requires c = utf8_gap _ (sym c.is_gap.ensures ∙ c.if-not-is_gap.false)

pub returns-clause-reads : goal.returns-clause-reads
returns-clause-reads c =
    let w = white_at c.skip_white-rest.ensures in
    let taken = front_taken _ w.run _ w.are in (
      c.skip_white-rest.ensures,
      record {
        gap = w.run;
        are = w.are;
        is = ap (list_all is_gap) (sym taken) ∙ sym c.is_gap.ensures ∙ c.if-not-is_gap.false;
        new_is = c.in_ok-push_bytes.ensures ∙ ap (λ (t : List ℕ). string_bytes c.args.text.now ++ t) taken;
      },
    )
