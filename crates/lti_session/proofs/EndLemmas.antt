-- What a fault of the wire makes of a connection.
use Rattle.std.proofs.Common.{◌≡◌, ℕ, List, [], ◌++◌, true, false, inl, inr, refl, sym, ap, ◌∙◌, subst, append-nil, Option, Some, None, Err}
use Rattle.lti_outside.specs.Traffic.{Told, Traffic, Fault, no_fault, read_fault, write_fault, Tells, Counts, Moves, IsProperPrefix, IsAtEnd}
use Rattle.lti_outside.specs.declared.limits.Limits.{Limits}
use Rattle.lti_outside.specs.Faults.{Rose}
use Rattle.lti_outside.proofs.TrafficLemmas.{IsAtEnd-gives, Moves-gives}
use Rattle.http_wire.specs.Message.{ResponseParts}
use Rattle.http_wire.specs.Spelling.{WireFaultOf, FaultTells, fault_of}
use Rattle.http_wire.specs.declared.message.Request.{Request}
use Rattle.http_wire.specs.declared.fault.WireFault.{WireFault}
use Rattle.http_wire.specs.declared.fault.WireFault.TheVariants as wire
use Rattle.lti_provider.specs.Answers.{wire_answer, no_memory_answer}
use Rattle.lti_session.specs.Exchange.{Service, Progress}
use Rattle.lti_session.specs.State.{SessionState}
use Rattle.lti_session.specs.Refusal.{Refuses, refused_end}
use Rattle.lti_session.specs.Talk.{EndTells, Spoken, ended, last_answer}
use Rattle.lti_session.specs.declared.session_end.SessionEnd.{SessionEnd}
use Rattle.lti_session.specs.declared.session_end.SessionEnd.TheVariants.{Refused, WriteFault}
use Rattle.lti_session.proofs.TalkLemmas.{Talks-none}

-- a fault stays where the input's end does
pub fault_after : (limits : Limits) (rest : List ℕ) (P Q : Type 0) (fault : WireFault) → (P → Q) → WireFaultOf limits rest P fault → WireFaultOf limits rest Q fault
fault_after limits rest P Q fault more is =
    elim is [
      | inl long ↦ inl long
      | inr other ↦ elim other [
        | inl cut ↦ inr (inl (cut.0, (cut.1.0, cut.1.1, cut.1.2, more cut.1.3)))
        | inr behind ↦ inr (inr (behind.0, behind.1, behind.2, elim behind.3 [ inl head ↦ inl head | inr body ↦ inr (body.0, (body.1.0, body.1.1, body.1.2, more body.1.3)) ]))
      ]
    ]

module _ (limits : Limits) (after : Traffic) (to : Progress) (rest written : List ℕ) (met : Fault) (end : SessionEnd) where
  abbrev Ends : SessionEnd → Type 0
  Ends other = EndTells limits after to rest [] written met other

  -- want of memory was answered, as far as the link took it
  pub no_memory_end : to.over ≡ false → Refuses written met wire.NoMemory end → Ends end
  no_memory_end goes_on refuses =
      elim refuses [
        | inl none ↦ absurd (let e = none.0 in cc)
        | inr some ↦
            let same : no_memory_answer ≡ some.0 = let e = some.1 in cc in
            elim some.2 [
              | inl all ↦ subst Ends (sym all.2) (goes_on, inl (all.0, all.1 ∙ ap last_answer (sym same)))
              | inr cut ↦ subst Ends (sym cut.2) (goes_on, inr (cut.0, written, subst (λ (a : ResponseParts). IsProperPrefix written (last_answer a)) (sym same) cut.1, refl))
            ]
      ]

  refusal_end : (fault : WireFault) → refused_end fault true ≡ Refused fault → refused_end fault false ≡ WriteFault → (wire_answer fault ≡ None → ⊥) → to.over ≡ false
      → WireFaultOf limits rest (IsAtEnd after) fault → Refuses written met fault end → Ends end
  refusal_end fault good bad some_answer goes_on is refuses =
      elim refuses [
        | inl none ↦ absurd (some_answer none.0)
        | inr some ↦ elim some.2 [
          | inl all ↦ subst Ends (sym (all.2 ∙ good)) (all.0, goes_on, is, some.0, some.1, all.1)
          | inr cut ↦ subst Ends (sym (cut.2 ∙ bad)) (cut.0, inr (fault, goes_on, is, some.0, some.1, cut.1))
        ]
      ]

  -- the fault of the bytes was answered, as far as it has an answer and the link took it
  pub fault_end : (before : Traffic) (fault : WireFault) → (fault ≡ wire.ReadFault → ⊥) → to.over ≡ false → FaultTells limits rest (IsAtEnd before) fault
      → Moves before after [] written met → Refuses written met fault end → Ends end
  fault_end before wire.ReadFault other goes_on is moves refuses = absurd (other refl)
  fault_end before wire.NoMemory other goes_on is moves refuses = no_memory_end goes_on refuses
  fault_end before wire.CutShort other goes_on is moves refuses =
      elim refuses [
        | inl none ↦ subst Ends (sym none.3) (none.1, none.2, goes_on, fault_after limits rest (IsAtEnd before) (IsAtEnd after) wire.CutShort (IsAtEnd-gives moves) is)
        | inr some ↦ absurd (let e = some.1 in cc)
      ]
  fault_end before fault other goes_on is moves refuses =
      refusal_end fault refl refl (λ none. (cc)) goes_on (fault_after limits rest (IsAtEnd before) (IsAtEnd after) fault (IsAtEnd-gives moves) is) refuses

still_tells : (a b c : Option Told) (r v : List ℕ) → Tells a b r v → Tells b c [] [] → Tells a c r v
still_tells None b c r v first second = rw first at second
still_tells (Some a) None c r v first second = absurd first
still_tells (Some a) (Some b) None r v first second = absurd second
still_tells (Some a) (Some b) (Some c) r v first second = (
  first.0 ∙ ap (λ l. r ++ l) second.0,
  second.1 ∙ append-nil b.taken ∙ first.1,
  second.2 ∙ append-nil b.given ∙ first.2,
)

still_counts : (a b c : Traffic) (fault : Fault) → Counts a b fault → Counts b c no_fault → Counts a c fault
still_counts a b c no_fault first second = (second.0 ∙ first.0, second.1 ∙ first.1)
still_counts a b c read_fault first second = (subst (λ (n : ℕ). Rose a.read_faults n) (sym second.0) first.0, second.1 ∙ first.1)
still_counts a b c write_fault first second = (second.0 ∙ first.0, subst (λ (n : ℕ). Rose a.write_faults n) (sym second.1) first.1)

-- nothing passes behind a call
Moves-still : {a b c : Traffic} {r v : List ℕ} {fault : Fault} → Moves a b r v fault → Moves b c [] [] no_fault → Moves a c r v fault
Moves-still {a = a} {b = b} {c = c} {r = r} {v = v} {fault = fault} first second = record {
  bytes = still_tells a.told b.told c.told r v first.bytes second.bytes;
  faults = still_counts a b c fault first.faults second.faults;
}

-- a message that couldn't be read ended the connection, and that was answered where it has an answer
pub after_read : (t : Service) (a m b : Traffic) (old new : SessionState) (read written : List ℕ) (fault : WireFault) (met : Fault) (end : SessionEnd)
    → old.over ≡ false → new.ended ≡ true → Moves a m read [] (fault_of {T = Option Request} (Err fault)) → FaultTells t.limits (old.kept ++ read) (IsAtEnd m) fault
    → Moves m b [] written met → Refuses written met fault end → Spoken t a b old new [] (ended end)
after_read t a m b old new read written wire.ReadFault met end goes_on over moves is gives refuses =
    elim refuses [
      | inl none ↦ record {
        read = read;
        written = [];
        fault = read_fault;
        moves = Moves-still moves (subst (λ (f : Fault). Moves m b [] [] f) none.1 (subst (λ (w : List ℕ). Moves m b [] w met) none.2 gives));
        talks = Talks-none t b old new read [] read_fault (ended end)
            (subst (λ (e : SessionEnd). EndTells t.limits b record { count = old.count; over = old.over } (old.kept ++ read) [] [] read_fault e) (sym none.3) (refl, refl, goes_on, is), over);
      }
      | inr some ↦ absurd (let e = some.1 in cc)
    ]
after_read t a m b old new read written fault met end goes_on over moves is gives refuses = record {
  read = read;
  written = written;
  fault = met;
  moves = Moves-gives moves gives;
  talks = Talks-none t b old new read written met (ended end)
      (fault_end t.limits b record { count = old.count; over = old.over } (old.kept ++ read) written met end m fault (λ same. (cc)) goes_on is gives refuses, over);
}
