use Rattle.std.proofs.Common.{ℕ, ◌<◌, ◌++◌, [], inl, refl, sym, ap, ◌∙◌, subst, append-nil, Bool, Some, None}
use Rattle.lti_outside.specs.Traffic.{no_fault, write_fault}
use Rattle.lti_outside.proofs.TrafficLemmas.{Moves-same}
use Rattle.http_wire.specs.Message.{parts_of, response_parts_of}
use Rattle.lti_session.specs.State.{SessionState}
use Rattle.lti_session.specs.Exchange.{Exchange, Progress}
use Rattle.lti_session.proofs.TalkLemmas.{Talks-none, Talks-one}
use Rattle.lti_session.proofs.EndLemmas.{no_memory_end}
use Rattle.lti_session.proofs.asking.Session.take.Goals as goal

abbrev progress_of : ℕ → Bool → Progress
progress_of count over = record { count = count; over = over }

pub returns-in-Ok-clause-talk : goal.returns-in-Ok-clause-talk
returns-in-Ok-clause-talk g c =
    let below = subst (λ (s : SessionState). s.count < c.args.limits.now.requests) (sym c.self.view_is) c.requires.below in
    let over = ap (λ (s : SessionState). s.over) c.self.view_is ∙ c.requires.open in
    let lives = ap (λ (s : SessionState). s.ended) c.self.view_is ∙ c.requires.lives in
    let idle = ap (λ (s : SessionState). s.pending) c.self.view_is ∙ c.requires.idle in
    let before = rw c.in-Ok-Refused.field-0-is at c.in-Ok-Refused.ensures in
    rw (sym c.self.view_is) (
      _,
      no_fault,
      c.in-Ok.ensures.written,
      λ spelled spells.
          let e : Exchange = record { spelled = spelled; request = parts_of c.args.request; told = None; answer = response_parts_of c.in-Ok-Refused.response; ends = c.ends_with-ends.result } in
          Talks-one _ _ _ _ _ _ _ e _ _ over below
          (record { spelling = spells; answer = before.0; ends = c.ends_with-ends.ensures.ends })
          (append-nil _)
          (refl, refl, record { kept = refl; count = refl; over = refl; pending = idle; lives = lives }),
    )

pub returns-in-Ok-Refused-clause-talk : goal.returns-in-Ok-Refused-clause-talk
returns-in-Ok-Refused-clause-talk g c =
    let below = subst (λ (s : SessionState). s.count < c.args.limits.now.requests) (sym c.self.view_is) c.requires.below in
    let over = ap (λ (s : SessionState). s.over) c.self.view_is ∙ c.requires.open in
    let before = rw c.in-Ok-Refused.field-0-is at c.in-Ok-Refused.ensures in
    let cut = c.in-Err-write_response.ensures.failed in
    rw (sym c.self.view_is) (
      cut.front,
      write_fault,
      cut.moves,
      λ spelled spells.
          let e : Exchange = record { spelled = spelled; request = parts_of c.args.request; told = None; answer = response_parts_of c.in-Ok-Refused.response; ends = c.ends_with-ends.result } in
          Talks-one _ _ _ _ _ _ _ e _ _ over below
          (record { spelling = spells; answer = before.0; ends = c.ends_with-ends.ensures.ends })
          (append-nil _)
          ((refl, inl cut.proper), refl),
    )

pub returns-in-Ok-reserve_answer-clause-talk : goal.returns-in-Ok-reserve_answer-clause-talk
returns-in-Ok-reserve_answer-clause-talk g c =
    let below = subst (λ (s : SessionState). s.count < c.args.limits.now.requests) (sym c.self.view_is) c.requires.below in
    let over = ap (λ (s : SessionState). s.over) c.self.view_is ∙ c.requires.open in
    let lives = ap (λ (s : SessionState). s.ended) c.self.view_is ∙ c.requires.lives in
    let signed = c.in-Ok-Asked.signed in
    let before = rw c.in-Ok-Asked.field-0-is at c.in-Ok-Asked.ensures in
    let takes = before.2 in
    rw (sym c.self.view_is, c.signed_call.ensures) (
      [],
      no_fault,
      Moves-same _,
      λ spelled spells.
          Talks-none _ _ _ _ _ _ _ _ (
            refl,
            refl,
            record {
              spelled = spelled;
              request = parts_of c.args.request;
              spelling = spells;
              bytes = append-nil _;
              signed = signed;
              outcome = c.in-Ok-Asked.outcome;
              asked = before.0;
              call_is = record { caller = refl; moment = c.now.ensures.told; key = refl; timestamp = refl; nonce = refl };
              sound = record { moment = c.now.ensures.bound; key = takes.key; stamp = inl (record { signed = before.1; timestamp = takes.timestamp; nonce = takes.nonce }) };
              pending = λ i. Some (record { ends = (c.in-Ok-reserve_answer.ensures.ends ∙ c.ends_with-ends.ensures.ends) i; outcome = c.in-Ok-reserve_answer.ensures.outcome i });
              goes_on = over;
              below = below;
              count = refl;
              over = over;
              lives = lives;
            },
          ),
    )

pub returns-in-Ok-Asked-clause-talk : goal.returns-in-Ok-Asked-clause-talk
returns-in-Ok-Asked-clause-talk g c =
    let over = ap (λ (s : SessionState). s.over) c.self.view_is ∙ c.requires.open in
    let refused = c.refuse.ensures in
    rw (sym c.self.view_is) (
      refused.0,
      refused.1,
      refused.2,
      λ spelled spells. Talks-none _ _ _ _ _ _ _ _ (no_memory_end c.args.limits.now (g.L.Outside.traffic c.refuse.new.link) (progress_of c.self.inside.count c.self.inside.over) ((spelled ++ c.self.inside.wire.kept) ++ []) refused.0 refused.1 c.refuse.result over refused.3, refl),
    )

pub returns-clause-talk : goal.returns-clause-talk
returns-clause-talk g c =
    let over = ap (λ (s : SessionState). s.over) c.self.view_is ∙ c.requires.open in
    let refused = c.refuse-in-Err.ensures in
    rw (sym c.self.view_is) (
      refused.0,
      refused.1,
      refused.2,
      λ spelled spells. Talks-none _ _ _ _ _ _ _ _ (no_memory_end c.args.limits.now (g.L.Outside.traffic c.refuse-in-Err.new.link) (progress_of c.self.inside.count c.self.inside.over) ((spelled ++ c.self.inside.wire.kept) ++ []) refused.0 refused.1 c.refuse-in-Err.result over refused.3, refl),
    )
