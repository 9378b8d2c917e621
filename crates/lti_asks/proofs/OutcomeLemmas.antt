-- What the replies to outcomes' calls tell.
use Rattle.std.proofs.Common.{◌≡◌, ℕ, true, Option, Some, None, refl, sym, ap, ◌∙◌, subst}
use Rattle.std.proofs.lemmas.Bool.{false≢true}
use Rattle.pox_outcomes.specs.declared.outcome.Operation.{Operation}
use Rattle.pox_outcomes.specs.declared.outcome.Operation.TheVariants.{ReplaceResult, ReadResult, DeleteResult}
use Rattle.pox_outcomes.specs.declared.outcome.Outcome.{Outcome}
use Rattle.pox_outcomes.specs.declared.told.Told.{Told}
use Rattle.pox_outcomes.specs.declared.told.Told.TheVariants as told
use Rattle.lti_machine.specs.Belongs.{belongs}
use Rattle.lti_machine.specs.declared.call.Action.{Action}
use Rattle.lti_machine.specs.declared.reply.Reply.{Reply}
use Rattle.lti_machine.specs.declared.reply.Reply.TheVariants as reply
use Rattle.score_decimal.proofs.WritingLemmas.{number_once}
use Rattle.lti_asks.specs.Outcomes.{IsScoreOf, IsTold, asks, OneTelling, AcceptedIsTold, is_of_outcomes}

pub one_telling : OneTelling
one_telling o reply.Graded this other first second =
    first.3 ∙ ap told.Replaced (number_once o.score_text first.1 second.1 first.2 second.2) ∙ sym second.3
one_telling o reply.BadScore this other first second = first.1 ∙ sym second.1
one_telling o (reply.GradeRead (Some score)) this other first second = first.1 ∙ sym second.1
one_telling o (reply.GradeRead None) this other first second = first.1 ∙ sym second.1
one_telling o reply.Deleted this other first second = first.1 ∙ sym second.1
one_telling o reply.UnknownId this other first second = first ∙ sym second
one_telling o given this other first second = absurd first

-- what is told of a reply to an operation with this score
telling : (o : Outcome) (operation : Operation) (score : Option ℕ) (given : Reply) → o.operation ≡ operation → IsScoreOf o.score_text score
    → belongs (asks operation o.sourced_id score) given ≡ true → is_of_outcomes given ≡ true → (this : Told) × IsTold o given this
telling o operation score reply.UnknownId is score_is fits accepted = (told.UnknownId, refl)
telling o ReplaceResult (Some n) reply.Graded is score_is fits accepted = (told.Replaced n, (is, n, (score_is n).0 refl, refl))
telling o ReplaceResult None reply.BadScore is score_is fits accepted = (told.BadScore, (is, refl))
telling o ReadResult score (reply.GradeRead (Some n)) is score_is fits accepted = (told.ReadScore n, (is, refl))
telling o ReadResult score (reply.GradeRead None) is score_is fits accepted = (told.ReadNothing, (is, refl))
telling o DeleteResult score reply.Deleted is score_is fits accepted = (told.Deleted, (is, refl))
telling o ReplaceResult None reply.Graded is score_is fits accepted = absurd (false≢true fits)
telling o ReplaceResult (Some n) reply.BadScore is score_is fits accepted = absurd (false≢true fits)
telling o ReplaceResult score (reply.GradeRead found) is score_is fits accepted = absurd (false≢true fits)
telling o ReplaceResult score reply.Deleted is score_is fits accepted = absurd (false≢true fits)
telling o ReadResult score reply.Graded is score_is fits accepted = absurd (false≢true fits)
telling o ReadResult score reply.Deleted is score_is fits accepted = absurd (false≢true fits)
telling o ReadResult score reply.BadScore is score_is fits accepted = absurd (false≢true fits)
telling o DeleteResult score reply.Graded is score_is fits accepted = absurd (false≢true fits)
telling o DeleteResult score (reply.GradeRead found) is score_is fits accepted = absurd (false≢true fits)
telling o DeleteResult score reply.BadScore is score_is fits accepted = absurd (false≢true fits)
telling o operation score given is score_is fits accepted = absurd (false≢true accepted)

pub accepted_is_told : AcceptedIsTold
accepted_is_told o asked given is fits accepted =
    telling o o.operation is.score given refl is.is_score (subst (λ (a : Action). belongs a given ≡ true) is.action_is fits) accepted
