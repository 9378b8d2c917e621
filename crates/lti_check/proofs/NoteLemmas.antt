-- What the window's answers mean for the calls that it holds.
use Rattle.std.proofs.Common.{◌≡◌, ℕ, List, refl, sym, ap, ◌∙◌}
use Rattle.std.specs.Prelude.{max, if◌then◌else◌}
use Rattle.lti_machine.specs.Nonces.{stamp_of_call, verdict}
use Rattle.lti_machine.specs.Rules.{decide, after, high, now_of, is_issue, id_of, standing_of, result_of, reply_by, verdict_of, entry_of}
use Rattle.lti_machine.specs.declared.call.Action.{Action}
use Rattle.lti_machine.specs.declared.call.Action.TheVariants.{Note}
use Rattle.lti_machine.specs.declared.call.Call.{Call}
use Rattle.lti_machine.specs.declared.entry.Entry.{Entry}
use Rattle.lti_machine.specs.declared.reply.Reply.{Reply}
use Rattle.lti_machine.specs.declared.reply.Reply.TheVariants.{Noted}
use Rattle.lti_machine.specs.declared.verdict.Verdict.{Verdict}
use Rattle.lti_machine.specs.declared.verdict.Verdict.TheVariants.{New}
use Rattle.lti_machine.proofs.LiveLemmas.{high-push}
use Rattle.nonce_window.specs.Window.{WindowValue}
use Rattle.nonce_window.specs.Words.{Says, Adds, SameContents}
use Rattle.lti_check.specs.Noting.{HoldsCalls, Notes}

module _ (limit : ℕ) (before : WindowValue) (call : Call) (note : call.action ≡ Note) (accepted : List Entry) (held : HoldsCalls limit before accepted) where
  -- the moment that stands, by the calls
  now_is : max call.moment before.high ≡ now_of accepted call
  now_is = ap (λ h. max call.moment h) held.moment

  -- the calls give the verdict that the window gave
  verdict_is : (answer : Verdict) → Says before call.key (stamp_of_call call) (max call.moment before.high) answer → answer ≡ verdict_of accepted call limit
  verdict_is answer says =
      says accepted held.nonces
      ∙ ap (λ n. verdict accepted call.key (stamp_of_call call) n before.limit) now_is
      ∙ ap (λ l. verdict accepted call.key (stamp_of_call call) (now_of accepted call) l) held.most

  -- so the reply is decided by it
  decided : (answer : Verdict) → Says before call.key (stamp_of_call call) (max call.moment before.high) answer
      → reply_by answer (max call.moment before.high) Noted ≡ decide accepted call limit
  decided answer says =
      ap (λ v. reply_by v (max call.moment before.high) Noted) (verdict_is answer says)
      ∙ ap (λ n. reply_by (verdict_of accepted call limit) n Noted) now_is
      ∙ sym (ap
      (λ (a : Action). if is_issue a then result_of a (standing_of accepted call.key (id_of a))
      else reply_by (verdict_of accepted call limit) (now_of accepted call) (result_of a (standing_of accepted call.key (id_of a))))
      note)

  -- the calls that are held with one more
  admitted : (ready later : WindowValue) → SameContents before ready → Adds ready later call.key (stamp_of_call call)
      → later.high ≡ max ready.high (max call.moment before.high) → later.limit ≡ ready.limit
      → HoldsCalls limit later (after accepted call Noted)
  admitted ready later same adds moment most =
      let entry = entry_of call Noted (now_of accepted call) in
      record {
        nonces = adds accepted entry ((same.lists accepted).0 held.nonces) refl refl;
        moment = moment ∙ ap (λ h. max h (max call.moment before.high)) (same.high ∙ held.moment) ∙ ap (λ n. max (high accepted) n) now_is ∙ sym (high-push accepted entry);
        most = most ∙ same.limit ∙ held.most;
      }

module _ (before : WindowValue) (call : Call) (note : call.action ≡ Note) where
  -- a refusal leaves all as it was
  pub refused : (answer : Verdict) → Says before call.key (stamp_of_call call) (max call.moment before.high) answer
      → (reply : Reply) → reply ≡ reply_by answer (max call.moment before.high) Noted
      → ((accepted : List Entry) → after accepted call reply ≡ accepted) → (limit : ℕ) → Notes limit before call reply before
  refused answer says reply is same limit accepted held =
      (is ∙ decided limit before call note accepted held answer says, rw (same accepted) held)

  -- a new nonce is noted
  pub noted : (ready later : WindowValue) → Says before call.key (stamp_of_call call) (max call.moment before.high) New
      → SameContents before ready → Adds ready later call.key (stamp_of_call call)
      → later.high ≡ max ready.high (max call.moment before.high) → later.limit ≡ ready.limit
      → (limit : ℕ) → Notes limit before call Noted later
  noted ready later says same adds moment most limit accepted held =
      (decided limit before call note accepted held New says, admitted limit before call note accepted held ready later same adds moment most)

  -- what the window says of a nonce it says where room was made for it
  pub still_new : (ready : WindowValue) (now : ℕ) → SameContents before ready → Says before call.key (stamp_of_call call) now New
      → Says ready call.key (stamp_of_call call) now New
  still_new ready now same says entries holds =
      says entries ((same.lists entries).1 holds) ∙ ap (λ l. verdict entries call.key (stamp_of_call call) now l) (sym same.limit)
