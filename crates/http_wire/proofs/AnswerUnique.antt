-- Bytes begin with one answer at most.
use Rattle.std.proofs.Common.{◌≡◌, ℕ, List, [], ◌++◌, sym, ap, ◌∙◌, append_assoc, append-nil, subst}
use Rattle.std.specs.Prelude.{Option, None, Some, ⊤}
use Rattle.httparse.proofs.GrammarLemmas.{response_unique}
use Rattle.lti_outside.specs.declared.limits.Limits.{Limits}
use Rattle.http_wire.specs.Answer.{AnswerHeadParts, IsAnswerOf, answer_head_parts_of, answer_conditions, answer_length, answer_of, AnswerHeadReads, IsAnswerBody, OneAnswer}
use Rattle.http_wire.proofs.ReadingLemmas.{head_parts_unique}
use Rattle.http_wire.proofs.UniqueLemmas.{heads_unique, same_fronts}

-- a head says one thing
said_once : (limits : Limits) (head : List ℕ) (p q : AnswerHeadParts) → AnswerHeadReads limits head p → AnswerHeadReads limits head q → p ≡ q
said_once limits head p q one other =
    head_parts_unique IsAnswerOf answer_head_parts_of (answer_conditions limits) limits head (λ h k a b. (response_unique head h k [] [] a b).0) p q one other

-- bodies of one kind behind the same head
bodies_unique : (limits : Limits) (ended : Type 0) (a b x y : List ℕ) (said : Option ℕ) → IsAnswerBody limits x ended a said → IsAnswerBody limits y ended b said → a ++ x ≡ b ++ y → (a ≡ b) × (x ≡ y)
bodies_unique limits ended a b x y None one other is =
    (sym (ap (λ r. a ++ r) one.1 ∙ append-nil a) ∙ is ∙ ap (λ r. b ++ r) other.1 ∙ append-nil b, one.1 ∙ sym other.1)
bodies_unique limits ended a b x y (Some count) one other is = same_fronts a b x y (one ∙ sym other) is

pub one_answer : OneAnswer
one_answer limits one other x y p q first second is =
    let heads = heads_unique first.head second.head (p.body ++ x) (q.body ++ y) first.is_head second.is_head
    (sym (append_assoc first.head p.body x) ∙ ap (λ b. b ++ x) (sym first.is) ∙ is ∙ ap (λ b. b ++ y) second.is ∙ append_assoc second.head q.body y) in
    let same_parts = said_once limits first.head first.head_parts second.head_parts first.reads (subst (λ (h : List ℕ). AnswerHeadReads limits h second.head_parts) (sym heads.0) second.reads) in
    let bodies = bodies_unique limits ⊤ p.body q.body x y (answer_length first.head_parts) first.body
    (subst (λ (o : Option ℕ). IsAnswerBody limits y ⊤ q.body o) (sym (ap answer_length same_parts)) second.body) heads.1 in (
      first.is ∙ (λ i. heads.0 i ++ bodies.0 i) ∙ sym second.is,
      first.parts_are ∙ (λ i. answer_of (same_parts i) (bodies.0 i)) ∙ sym second.parts_are,
      bodies.1,
    )
