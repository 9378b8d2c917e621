-- What a crash leaves at each moment, call by call.
use Rattle.std.proofs.Common.{◌≡◌, inl, inr, ⊎_elim, ℕ, List, refl, ◌∙◌, subst, sym, arith}
use Rattle.lti_outside.specs.Disk.{Torn, Only, Elapses}
use Rattle.lti_outside.specs.DiskMoments.{LeavesOnly, OnlyReads}
use Rattle.lti_outside.specs.declared.disk.Disk.{Ghosts}

-- each image that a crash may leave now has P
abbrev pub Each : {D : Type 0} → Ghosts D → D → (List ℕ → Type 0) → Type 0
Each g d P = (image : List ℕ) → g.may_leave d image → P image

-- since this moment there is no other
abbrev pub OnlyNow : {D : Type 0} → Ghosts D → Type 0
OnlyNow {D = D} g = (d : D) (image : List ℕ) → g.left_since d (g.moment d) image → g.may_leave d image

-- time between two calls
abbrev pub Goes : {D : Type 0} → Ghosts D → D → D → Type 0
Goes g old new = Elapses (g.moment old) (g.moment new) (g.left_since old) (g.left_since new) (g.may_leave new)

-- before the first call
pub LeavesOnly-start : {D : Type 0} (g : Ghosts D) (d : D) (P : List ℕ → Type 0) → OnlyNow g → Each g d P → LeavesOnly g d d P
LeavesOnly-start g d P only_now each = record {
  later = omega arith;
  each = λ image left. each image (only_now d image left);
  before = λ t image le left. inl left;
}

-- one call more
pub LeavesOnly-call : {D : Type 0} (g : Ghosts D) (old mid new : D) (P : List ℕ → Type 0) → LeavesOnly g old mid P → Goes g mid new → Each g new P → LeavesOnly g old new P
LeavesOnly-call g old mid new P so_far time each = record {
  later = omega (arith, so_far.later, time.later);
  each = λ image left. ⊎_elim (so_far.each image) (each image) (time.nothing_else (g.moment old) image so_far.later left);
  before = λ t image le left. ⊎_elim (so_far.before t image le) (λ now. inr (each image now)) (time.nothing_else t image (omega (arith, le, so_far.later)) left);
}

-- one run of calls behind another
pub LeavesOnly-then : {D : Type 0} (g : Ghosts D) (a b c : D) (P Q R : List ℕ → Type 0) → LeavesOnly g a b P → LeavesOnly g b c Q → ((image : List ℕ) → P image → R image)
    → ((image : List ℕ) → Q image → R image) → LeavesOnly g a c R
LeavesOnly-then g a b c P Q R first second p q = record {
  later = omega (arith, first.later, second.later);
  each = λ image left. ⊎_elim (λ early. p image (first.each image early)) (q image) (second.before (g.moment a) image first.later left);
  before = λ t image le left. ⊎_elim (λ early. ⊎_elim (λ past. inl past) (λ now. inr (p image now)) (first.before t image le early)) (λ now. inr (q image now)) (second.before t image (omega (arith, le, first.later)) left);
}

-- a weaker fact
pub LeavesOnly-weaken : {D : Type 0} (g : Ghosts D) (a b : D) (P R : List ℕ → Type 0) → LeavesOnly g a b P → ((image : List ℕ) → P image → R image) → LeavesOnly g a b R
LeavesOnly-weaken g a b P R first p = record {
  later = first.later;
  each = λ image left. p image (first.each image left);
  before = λ t image le left. ⊎_elim (λ past. inl past) (λ now. inr (p image now)) (first.before t image le left);
}

-- calls that only read, one after another
pub OnlyReads-then : {D : Type 0} (g : Ghosts D) (a b c : D) → OnlyReads g a b → OnlyReads g b c → OnlyReads g a c
OnlyReads-then g a b c first second = record {
  same = second.same ∙ first.same;
  fewer = λ image left. first.fewer image (second.fewer image left);
  moments = LeavesOnly-then g a b c (g.may_leave a) (g.may_leave b) (g.may_leave a) first.moments second.moments (λ image here. here) first.fewer;
}

-- an image of now is one since the run began
pub OnlyReads-call : {D : Type 0} (g : Ghosts D) (old new : D) → OnlyNow g → Goes g old new → g.seen new ≡ g.seen old → ((image : List ℕ) → g.may_leave new image → g.may_leave old image) → OnlyReads g old new
OnlyReads-call g old new only_now time same fewer = record {
  same = same;
  fewer = fewer;
  moments = LeavesOnly-call g old old new (g.may_leave old) (LeavesOnly-start g old (g.may_leave old) only_now (λ image here. here)) time fewer;
}

-- what a sync that was done leaves
pub Only-each : {D : Type 0} (g : Ghosts D) (d : D) (P : List ℕ → Type 0) → P (g.seen d) → Only (g.seen d) (g.may_leave d) → Each g d P
Only-each g d P here durable image left = subst P (sym (durable image left)) here

-- an image is torn from itself
pub Torn-same : (place n : ℕ) (image : List ℕ) → Torn place n image image
Torn-same place n image = record { before = refl; after = refl; size = refl }
