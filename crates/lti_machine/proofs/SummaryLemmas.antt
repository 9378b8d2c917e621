-- The laws of summaries and digests.
use Rattle.std.proofs.Common.{◌≡◌, max, ℕ, Bool, true, false, List, [], ◌∷◌, ◌++◌, Option, Some, None, refl, sym, ap, ◌∙◌, arith, if◌then◌else◌}
use Rattle.std.proofs.lemmas.List.Sums.{fold-append}
use Rattle.lti_machine.specs.declared.entry.Entry.{Entry}
use Rattle.lti_machine.specs.Nonces.{stamp_of_call, verdict}
use Rattle.lti_machine.specs.Rules.{high, now_of, is_issue, id_of, standing_of, result_of, reply_by, entry_of, is_acceptance}
use Rattle.lti_machine.proofs.LiveLemmas.{high-push}
use Rattle.lti_machine.specs.Rows.{rows_of}
use Rattle.lti_machine.specs.Rows.{standing_in}
use Rattle.lti_machine.specs.Rows.{rows_after}
use Rattle.lti_machine.proofs.RowsAfter.{rows_of-push, standing_in-rows_of}
use Rattle.lti_machine.specs.Used.{used}
use Rattle.lti_machine.specs.Placements.{placed_of}
use Rattle.lti_machine.specs.Summary.{Summary, summary}
use Rattle.lti_machine.specs.Digest.{digest}
use Rattle.lti_machine.specs.SummaryLaws.{DigestServesAtMoment, DigestServes, SummaryDecides, SummaryGoesOn, SummaryGoesOnAfter}
use Rattle.lti_machine.proofs.UsedLemmas.{used_later, used_append, same_verdict}
use Rattle.lti_machine.proofs.DigestLemmas.{placed_step, rows_of-digest, placed_of-digest, high-digest, used-digest}

-- two lists with the same summary, the nonces at the moment of the first
pub record Alike (a b : List Entry) : Type 0 where
  pub highs : high a ≡ high b
  pub useds : used a (high a) ≡ used b (high a)
  pub rows : rows_of a ≡ rows_of b
  pub placed : placed_of a ≡ placed_of b

pub alike : (a b : List Entry) → summary a ≡ summary b → Alike a b
alike a b same =
    let highs = ap (λ (s : Summary). s.high) same in
    record {
      highs = highs;
      useds = ap (λ (s : Summary). s.used) same ∙ ap (used b) (sym highs);
      rows = ap (λ (s : Summary). s.rows) same;
      placed = ap (λ (s : Summary). s.placed) same;
    }

same_summary : (a b : List Entry) → Alike a b → summary a ≡ summary b
same_summary a b same =
    let useds = same.useds ∙ ap (used b) same.highs in
    λ i. record { high = same.highs i; used = useds i; rows = same.rows i; placed = same.placed i }

-- ---- one more entry

-- the same entry behind two lists, which agree on the nonces at the moment that stands then
pushed : (a b : List Entry) (e : Entry) → high a ≡ high b → used a (max (high a) e.moment) ≡ used b (max (high a) e.moment)
    → rows_of a ≡ rows_of b → placed_of a ≡ placed_of b → summary (a ++ e ∷ []) ≡ summary (b ++ e ∷ [])
pushed a b e highs useds rows placed = same_summary (a ++ e ∷ []) (b ++ e ∷ []) (record {
  highs = high-push a e ∙ ap (λ n. max n e.moment) highs ∙ sym (high-push b e);
  useds = ap (used (a ++ e ∷ [])) (high-push a e) ∙ used_append a b (e ∷ []) (max (high a) e.moment) useds ∙ ap (used (b ++ e ∷ [])) (sym (high-push a e));
  rows = rows_of-push a e ∙ ap (λ r. rows_after r e.key e.effect) rows ∙ sym (rows_of-push b e);
  placed = fold-append placed_step [] a (e ∷ []) ∙ ap (λ p. placed_step p e) placed ∙ sym (fold-append placed_step [] b (e ∷ []));
})

pub summary_goes_on : SummaryGoesOn
summary_goes_on a b e same =
    let was = alike a b same in
    pushed a b e was.highs (used_later a b (high a) (max (high a) e.moment) (omega arith) was.useds) was.rows was.placed

pub digest_serves_at_moment : DigestServesAtMoment
digest_serves_at_moment entries e h =
    let old = digest entries e.moment in
    let highs = high-digest entries e.moment in
    let now : max (high old) e.moment ≡ e.moment = omega (arith, highs) in
    pushed old entries e highs (ap (used old) now ∙ used-digest entries e.moment ∙ ap (used entries) (sym now)) (rows_of-digest entries e.moment) (placed_of-digest entries e.moment)

pub digest_serves : DigestServes
digest_serves entries =
    let old = digest entries (high entries) in
    let highs = high-digest entries (high entries) in
    same_summary old entries (record {
      highs = highs;
      useds = ap (used old) highs ∙ used-digest entries (high entries) ∙ ap (used entries) (sym highs);
      rows = rows_of-digest entries (high entries);
      placed = placed_of-digest entries (high entries);
    })

-- ---- the replies

pub same_standing : (a b : List Entry) (key : List ℕ) (id : Option (List ℕ)) → rows_of a ≡ rows_of b → standing_of a key id ≡ standing_of b key id
same_standing a b key None rows = refl
same_standing a b key (Some id) rows = sym (standing_in-rows_of a key id) ∙ ap (λ r. standing_in r key id) rows ∙ standing_in-rows_of b key id

pub summary_decides : SummaryDecides
summary_decides a b call limit same =
    let was = alike a b same in
    let now = now_of a call in
    let moments = ap (max call.moment) was.highs in
    let verdicts =
    same_verdict a b call.key (stamp_of_call call) now limit (used_later a b (high a) now (omega arith) was.useds)
    ∙ ap (λ n. verdict b call.key (stamp_of_call call) n limit) moments in
    let results = ap (result_of call.action) (same_standing a b call.key (id_of call.action) was.rows) in
    λ i. if is_issue call.action then results i else reply_by (verdicts i) (moments i) (results i)

pub summary_goes_on_after : SummaryGoesOnAfter
summary_goes_on_after a b call given same =
    let moments = ap (max call.moment) (alike a b same).highs in
    let e = entry_of call given (now_of a call) in
    by (is_acceptance given) same (summary_goes_on a b e same ∙ ap (λ n. summary (b ++ entry_of call given n ∷ [])) moments)
  where
    by : (c : Bool) → summary a ≡ summary b → summary (a ++ entry_of call given (now_of a call) ∷ []) ≡ summary (b ++ entry_of call given (now_of b call) ∷ [])
        → summary (if c then a ++ entry_of call given (now_of a call) ∷ [] else a) ≡ summary (if c then b ++ entry_of call given (now_of b call) ∷ [] else b)
    by true same more = more
    by false same more = same
