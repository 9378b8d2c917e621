-- What each part of reading a request failed with, the request fails with.
use Rattle.std.proofs.Common.{◌≡◌, ℕ, List, ◌++◌, inl, inr, refl, sym, ap, ◌∙◌, append_assoc, length}
use Rattle.std.specs.Prelude.{Err}
use Rattle.lti_outside.specs.declared.limits.Limits.{Limits}
use Rattle.http_wire.specs.declared.head.Front.{Front}
use Rattle.http_wire.specs.declared.fault.WireFault.{WireFault}
use Rattle.http_wire.specs.declared.fault.WireFault.TheVariants.{HeadTooLong, CutShort, ReadFault, NoMemory}
use Rattle.http_wire.specs.Head.{HeadParts, HeadReads, request_of, body_length}
use Rattle.http_wire.specs.Front.{IsFront, HeadTells}
use Rattle.http_wire.specs.Message.{RequestParts, parts_of}
use Rattle.http_wire.specs.Taking.{HeadTaken, BodyTaken}
use Rattle.http_wire.specs.Spelling.{Spelling, HeadIn, FaultTells}
use Rattle.http_wire.proofs.UniqueLemmas.{none_without_head, none_in_body}

pub head_failed : (limits : Limits) (bytes kept : List ℕ) (ended : Type 0) (fault : WireFault) → HeadTaken limits.head bytes kept ended (Err fault) → FaultTells limits bytes ended fault
head_failed limits bytes kept ended ReadFault tells = none_without_head limits bytes tells
head_failed limits bytes kept ended NoMemory tells = tt
head_failed limits bytes kept ended CutShort tells = inr (inl (refl, tells))
head_failed limits bytes kept ended HeadTooLong tells = inl (refl, tells)
head_failed limits bytes kept ended fault tells = absurd tells

pub front_failed : (limits : Limits) (bytes head rest : List ℕ) (ended : Type 0) → HeadIn limits bytes head rest
    → (fault : WireFault) → HeadTells limits head (Err fault) → FaultTells limits bytes ended fault
front_failed limits bytes head rest ended stands NoMemory tells = tt
front_failed limits bytes head rest ended stands ReadFault tells = absurd tells
front_failed limits bytes head rest ended stands fault tells = inr (inr (head, rest, stands, inl tells))

pub body_failed : (limits : Limits) (bytes head rest kept : List ℕ) (head_parts : HeadParts) (ended : Type 0) → HeadIn limits bytes head rest → HeadReads limits head head_parts
    → (fault : WireFault) → BodyTaken (body_length head_parts) rest kept ended (Err fault) → FaultTells limits bytes ended fault
body_failed limits bytes head rest kept head_parts ended stands reads NoMemory tells = tt
body_failed limits bytes head rest kept head_parts ended stands reads ReadFault tells = none_in_body limits bytes head rest head_parts stands reads tells
body_failed limits bytes head rest kept head_parts ended stands reads CutShort tells = inr (inr (head, rest, stands, inr (refl, (head_parts, reads, tells.0, tells.1))))
body_failed limits bytes head rest kept head_parts ended stands reads fault tells = absurd tells

-- a head and the body that it says spell a request
pub spelled : (limits : Limits) (head : List ℕ) (head_parts : HeadParts) (front : Front) (parts : RequestParts) (body : List ℕ) → HeadIn limits (head ++ body) head body → HeadReads limits head head_parts → IsFront head_parts front
    → length body ≡ front.length → parts ≡ record (parts_of front.request) { body = body } → Spelling limits (head ++ body) parts
spelled limits head head_parts front parts body stands reads is long made =
    let whole : parts ≡ request_of head_parts body = made ∙ ap (λ (p : RequestParts). record p { body = body }) is.request in
    record {
      head = head;
      head_parts = head_parts;
      is_head = stands.is_head;
      fits = stands.fits;
      reads = reads;
      body = ap (λ (p : RequestParts). length p.body) whole ∙ long ∙ is.length;
      is = ap (λ b. head ++ b) (sym (ap (λ (p : RequestParts). p.body) whole));
      parts_are = whole ∙ ap (λ b. request_of head_parts b) (sym (ap (λ (p : RequestParts). p.body) whole));
    }

-- what was read behind a head
pub more_read : (before read more head kept : List ℕ) → before ++ read ≡ head ++ kept → before ++ (read ++ more) ≡ head ++ (kept ++ more)
more_read before read more head kept is = sym (append_assoc before read more) ∙ ap (λ x. x ++ more) is ∙ append_assoc head kept more
