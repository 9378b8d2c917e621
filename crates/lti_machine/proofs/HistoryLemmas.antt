-- Histories by the rules, whatever machine they were asked of.
use Rattle.std.proofs.Common.{◌≡◌, ℕ, true, true≢false, List, [], ◌∷◌, ◌++◌, refl, sym, ap, ◌∙◌, subst, ⊎_elim}
use Rattle.lti_machine.specs.History.{Member, after_all, AcceptsByRules, Leads, GoesByRules, KeepsToRules, AnyGoesByRules, Decides, PlainGoesByRules}
use Rattle.lti_machine.specs.Rules.{decide, is_acceptance, Answers}
use Rattle.lti_machine.specs.declared.call.Call.{Call}
use Rattle.lti_machine.specs.declared.entry.Entry.{Entry}
use Rattle.lti_machine.specs.declared.reply.Reply.{Reply}

-- what a machine that goes by the rules was asked is a history that does, down to its entries
pub led_by_rules : {S : Type 0} (window : ℕ) (entries_of : S → List Entry) (step : S → Call → Reply → S → Type 0) → GoesByRules window entries_of step
    → (from to : S) (told : List Member) → Leads step from told to → AcceptsByRules window (entries_of from) told × (entries_of to ≡ after_all (entries_of from) told)
led_by_rules window entries_of step goes from to [] leads = (tt, ap entries_of leads)
led_by_rules window entries_of step goes from to (m ∷ ms) (next, this, leads) =
    let (accepts, ends) = led_by_rules window entries_of step goes next to ms leads in
    let kept = goes.keeps from next m.0 m.1 this in (
      (goes.accepts from next m.0 m.1 this, subst (λ (es : List Entry). AcceptsByRules window es ms) kept accepts),
      subst (λ (es : List Entry). entries_of to ≡ after_all es ms) kept ends,
    )

pub keeping_goes : (window : ℕ) → GoesByRules window (λ (es : List Entry). es) (KeepsToRules window)
keeping_goes window = record {
  accepts = λ from next call given this. this.0;
  keeps = λ from next call given this. this.1;
}

pub any_goes_by_rules : AnyGoesByRules
any_goes_by_rules window from to told = led_by_rules window (λ (es : List Entry). es) (KeepsToRules window) (keeping_goes window) from to told

-- an acceptance is the reply that the rules decide
pub accepted_is_decided : (decided given : Reply) → Answers decided given → is_acceptance given ≡ true → given ≡ decided
accepted_is_decided decided given answers accepted = ⊎_elim (λ same. same) (λ none. absurd (true≢false (sym accepted ∙ ap is_acceptance none.1))) answers

pub plain_goes : (window : ℕ) → GoesByRules window (λ (es : List Entry). es) (Decides window)
plain_goes window = record {
  accepts = λ from next call given this. accepted_is_decided (decide from call window) given this.0;
  keeps = λ from next call given this. this.1;
}

pub plain_goes_by_rules : PlainGoesByRules
plain_goes_by_rules window from to told = led_by_rules window (λ (es : List Entry). es) (Decides window) (plain_goes window) from to told

-- one step more
pub leads_push : {S : Type 0} (step : S → Call → Reply → S → Type 0) (from mid to : S) (ms : List Member) (call : Call) (given : Reply)
    → Leads step from ms mid → step mid call given to → Leads step from (ms ++ (call, given) ∷ []) to
leads_push {S} step from mid to [] call given leads last = (to, subst (λ (s : S). step s call given to) leads last, refl)
leads_push step from mid to (m ∷ ms) call given (next, this, leads) last = (next, this, leads_push step next mid to ms call given leads last)
