-- What each part of reading an answer failed with, the answer fails with.
use Rattle.std.proofs.Common.{◌≡◌, ℕ, List, ◌++◌, inl, inr, refl, sym, ap, ◌∙◌, append-nil, subst}
use Rattle.std.specs.Prelude.{Ok, Err, Option, None, Some}
use Rattle.lti_outside.specs.Held.{Held}
use Rattle.lti_outside.specs.declared.limits.Limits.{Limits}
use Rattle.http_wire.specs.declared.answer_head.AnswerFront.{AnswerFront}
use Rattle.http_wire.specs.declared.fault.WireFault.{WireFault}
use Rattle.http_wire.specs.declared.fault.WireFault.TheVariants.{HeadTooLong, CutShort, BodyTooLong, ReadFault, NoMemory}
use Rattle.http_wire.specs.Taking.{HandTells, HeadTaken, BodyTaken}
use Rattle.http_wire.specs.Spelling.{HeadIn}
use Rattle.http_wire.specs.Answer.{AnswerHeadParts, answer_length, answer_of, AnswerHeadReads, IsAnswerBody, AnswerSpelling, AnswerTells}
use Rattle.http_wire.specs.AnswerFront.{IsAnswerFront, AnswerHeadTells, RestTaken, AnswerBodyTaken}

-- what handing on failed with, the rest fails with
pub rest_failed : (kind : List ℕ → Type 0) (most limit : ℕ) (bytes kept before after total : List ℕ) (ended : Type 0)
    → (fault : WireFault) → HandTells kind most bytes kept before after ended (Err fault) → RestTaken limit total kept ended (Err fault)
rest_failed kind most limit bytes kept before after total ended ReadFault tells = tt
rest_failed kind most limit bytes kept before after total ended NoMemory tells = tt
rest_failed kind most limit bytes kept before after total ended fault tells = absurd tells

pub answer_head_failed : (limits : Limits) (bytes kept : List ℕ) (ended : Type 0) (fault : WireFault) → HeadTaken limits.head bytes kept ended (Err fault) → AnswerTells limits bytes kept ended (Err fault)
answer_head_failed limits bytes kept ended ReadFault tells = tt
answer_head_failed limits bytes kept ended NoMemory tells = tt
answer_head_failed limits bytes kept ended CutShort tells = inr (inl (refl, (tells.1, tells.2, tells.3)))
answer_head_failed limits bytes kept ended HeadTooLong tells = inl (refl, tells)
answer_head_failed limits bytes kept ended fault tells = absurd tells

pub answer_front_failed : (limits : Limits) (bytes head rest kept : List ℕ) (ended : Type 0) → HeadIn limits bytes head rest
    → (fault : WireFault) → AnswerHeadTells limits head (Err fault) → AnswerTells limits bytes kept ended (Err fault)
answer_front_failed limits bytes head rest kept ended stands NoMemory tells = tt
answer_front_failed limits bytes head rest kept ended stands ReadFault tells = absurd tells
answer_front_failed limits bytes head rest kept ended stands fault tells = inr (inr (head, rest, stands, inl tells))

rest_of_answer_failed : (limits : Limits) (bytes head rest kept : List ℕ) (head_parts : AnswerHeadParts) (ended : Type 0) → HeadIn limits bytes head rest → AnswerHeadReads limits head head_parts
    → answer_length head_parts ≡ None → (fault : WireFault) → RestTaken limits.body rest kept ended (Err fault) → AnswerTells limits bytes kept ended (Err fault)
rest_of_answer_failed limits bytes head rest kept head_parts ended stands reads none ReadFault tells = tt
rest_of_answer_failed limits bytes head rest kept head_parts ended stands reads none NoMemory tells = tt
rest_of_answer_failed limits bytes head rest kept head_parts ended stands reads none BodyTooLong tells = inr (inr (head, rest, stands, inr (inl (refl, (head_parts, reads, none, tells)))))
rest_of_answer_failed limits bytes head rest kept head_parts ended stands reads none fault tells = absurd tells

count_of_answer_failed : (limits : Limits) (bytes head rest kept : List ℕ) (head_parts : AnswerHeadParts) (count : ℕ) (ended : Type 0) → HeadIn limits bytes head rest → AnswerHeadReads limits head head_parts
    → answer_length head_parts ≡ Some count → (fault : WireFault) → BodyTaken count rest kept ended (Err fault) → AnswerTells limits bytes kept ended (Err fault)
count_of_answer_failed limits bytes head rest kept head_parts count ended stands reads said ReadFault tells = tt
count_of_answer_failed limits bytes head rest kept head_parts count ended stands reads said NoMemory tells = tt
count_of_answer_failed limits bytes head rest kept head_parts count ended stands reads said CutShort tells =
    inr (inr (head, rest, stands, inr (inr (refl, (head_parts, reads, count, said, tells.0, tells.1)))))
count_of_answer_failed limits bytes head rest kept head_parts count ended stands reads said fault tells = absurd tells

pub answer_body_failed : (limits : Limits) (bytes head rest kept : List ℕ) (head_parts : AnswerHeadParts) (ended : Type 0) → HeadIn limits bytes head rest → AnswerHeadReads limits head head_parts
    → (said : Option ℕ) → answer_length head_parts ≡ said → (fault : WireFault) → AnswerBodyTaken limits.body said rest kept ended (Err fault) → AnswerTells limits bytes kept ended (Err fault)
answer_body_failed limits bytes head rest kept head_parts ended stands reads None is fault tells = rest_of_answer_failed limits bytes head rest kept head_parts ended stands reads is fault tells
answer_body_failed limits bytes head rest kept head_parts ended stands reads (Some count) is fault tells = count_of_answer_failed limits bytes head rest kept head_parts count ended stands reads is fault tells

parts_as : (head_parts : AnswerHeadParts) (front : AnswerFront) (body : List ℕ) → IsAnswerFront head_parts front → record { status = front.status; media = front.media; body = body } ≡ answer_of head_parts body
parts_as head_parts front body is = λ i. record { status = is.status i; media = is.media i; body = body }

-- a head and the body that it says spell an answer
pub answer_spelled : (limits : Limits) (head rest kept : List ℕ) (ended : Type 0) (head_parts : AnswerHeadParts) (front : AnswerFront) (body : Held) → HeadIn limits (head ++ rest) head rest → AnswerHeadReads limits head head_parts
    → IsAnswerFront head_parts front → (said : Option ℕ) → said ≡ answer_length head_parts → AnswerBodyTaken limits.body said rest kept ended (Ok body)
    → AnswerSpelling limits (head ++ body.list) kept ended (record { status = front.status; media = front.media; body = body.list }) × (rest ≡ body.list ++ kept)
answer_spelled limits head rest kept ended head_parts front body stands reads is None said tells = (
  record {
    head = head;
    head_parts = head_parts;
    is_head = stands.is_head;
    fits = stands.fits;
    reads = reads;
    body = subst (λ (o : Option ℕ). IsAnswerBody limits kept ended body.list o) said (tells.3, tells.1, tells.2);
    is = refl;
    parts_are = parts_as head_parts front body.list is;
  },
  tells.0 ∙ sym (ap (λ k. body.list ++ k) tells.1 ∙ append-nil body.list),
)
answer_spelled limits head rest kept ended head_parts front body stands reads is (Some count) said tells = (
  record {
    head = head;
    head_parts = head_parts;
    is_head = stands.is_head;
    fits = stands.fits;
    reads = reads;
    body = subst (λ (o : Option ℕ). IsAnswerBody limits kept ended body.list o) said tells.0;
    is = refl;
    parts_are = parts_as head_parts front body.list is;
  },
  tells.1,
)
