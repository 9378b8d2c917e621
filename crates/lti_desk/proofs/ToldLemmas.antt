-- The counts of faults that a legal history tells.
use Rattle.std.proofs.Common.{◌≡◌, ◌≤◌, ℕ, Bool, List, [], ◌∷◌, All, refl, sym, ap, subst, arith}
use Rattle.std.proofs.lemmas.List.Elements.{All-nil, All-cons, All-weaker}
use Rattle.lti_machine.specs.History.{Member}
use Rattle.lti_machine.specs.Rules.{decide}
use Rattle.lti_machine.proofs.PlainLemmas.{kind, decided_is_plain}
use Rattle.lti_machine.specs.declared.reply.Reply.{Reply}
use Rattle.lti_machine.specs.declared.reply.Reply.TheVariants as reply
use Rattle.lti_desk.specs.Legal.{Point, Legal, IsMember, IsReplied, TellsAtMost, faults_after, reach, step}
use Rattle.lti_desk.specs.Legal.IsReplied.{refused, too_long, accepted, no_memory, disk_fault}

-- a count is told by a fault of the disk alone
untold : (given : Reply) (before : ℕ) → (kind given ≡ 2 → ⊥) → before ≤ faults_after before given
untold reply.Noted before not = omega arith
untold reply.Launched before not = omega arith
untold reply.Graded before not = omega arith
untold (reply.GradeRead score) before not = omega arith
untold reply.Deleted before not = omega arith
untold reply.UnknownId before not = omega arith
untold reply.BadScore before not = omega arith
untold reply.Issued before not = omega arith
untold reply.AlreadyIssued before not = omega arith
untold (reply.Outside now) before not = omega arith
untold reply.Used before not = omega arith
untold (reply.WindowFull live) before not = omega arith
untold (reply.JournalFull free) before not = omega arith
untold (reply.DiskFault faults) before not = absurd (not refl)
untold reply.RunFull before not = omega arith
untold reply.NoMemory before not = omega arith

rises : (decided : Reply) (full : Bool) (free before : ℕ) (given : Reply) → kind decided ≡ 0 → IsReplied decided full free before given → before ≤ faults_after before given
rises decided full free before given plain (refused n is) = untold given before (λ two. omega (arith, two, ap kind is, plain))
rises decided full free before given plain (too_long y f is) = untold given before (λ two. omega (arith, two, ap kind is))
rises decided full free before given plain (accepted y f is) = untold given before (λ two. omega (arith, two, ap kind is, plain))
rises decided full free before given plain (no_memory y f is) = untold given before (λ two. omega (arith, two, ap kind is))
rises decided full free before given plain (disk_fault y f faults rose is) = subst (λ (r : Reply). before ≤ faults_after before r) (sym is) rose.later

member_rises : (window : ℕ) (p : Point) (m : Member) → IsMember window p m → p.faults ≤ (step p m).faults
member_rises window p m is = rises (decide p.entries m.0 window) _ _ p.faults m.1 (decided_is_plain p.entries m.0 window) is

-- the count that was told last never falls
pub never_falls : (window : ℕ) (p : Point) (ms : List Member) → Legal window p ms → p.faults ≤ (reach p ms).faults
never_falls window p [] legal = omega arith
never_falls window p (m ∷ ms) legal =
    let a = member_rises window p m legal.0 in let b = never_falls window (step p m) ms legal.1 in omega (arith, a, b)

told_below : (most before : ℕ) (given : Reply) → faults_after before given ≤ most → TellsAtMost most given
told_below most before given le = λ faults is. subst (λ (r : Reply). faults_after before r ≤ most) is le

-- each count that was told is at most the one that was told last
pub all_told : (window : ℕ) (p : Point) (ms : List Member) → Legal window p ms → All (λ m. TellsAtMost (reach p ms).faults m.1) ms
all_told window p [] legal = All-nil (λ (m : Member). TellsAtMost (reach p []).faults m.1)
all_told window p (m ∷ ms) legal =
    All-cons (λ (x : Member). TellsAtMost (reach (step p m) ms).faults x.1) m ms
    (told_below (reach (step p m) ms).faults p.faults m.1 (never_falls window (step p m) ms legal.1)) (all_told window (step p m) ms legal.1)

-- and so it is at most a count that isn't below that one
pub told_up_to : (window : ℕ) (p : Point) (ms : List Member) (most : ℕ) → Legal window p ms → (reach p ms).faults ≤ most → All (λ m. TellsAtMost most m.1) ms
told_up_to window p ms most legal le =
    All-weaker (λ (m : Member). TellsAtMost (reach p ms).faults m.1) (λ (m : Member). TellsAtMost most m.1)
    (λ m told faults is. let a = told faults is in omega (arith, a, le)) ms (all_told window p ms legal)
