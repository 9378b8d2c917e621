-- The rules decide no reply of a disk, of a run's end or of want of memory.
use Rattle.std.proofs.Common.{◌≡◌, ℕ, List, Some, None, refl}
use Rattle.std.proofs.lemmas.Bool.{cond_both}
use Rattle.lti_machine.specs.Rules.{decide, now_of, is_issue, result, result_of, standing_of, id_of, reply_by, verdict_of}
use Rattle.lti_machine.specs.declared.call.Action.{Action}
use Rattle.lti_machine.specs.declared.call.Action.TheVariants as action
use Rattle.lti_machine.specs.declared.call.Call.{Call}
use Rattle.lti_machine.specs.declared.entry.Entry.{Entry}
use Rattle.lti_machine.specs.declared.reply.Reply.{Reply}
use Rattle.lti_machine.specs.declared.reply.Reply.TheVariants as reply
use Rattle.lti_machine.specs.declared.standing.Standing.{Standing}
use Rattle.lti_machine.specs.declared.standing.Standing.TheVariants.{Unknown, Empty, Scored}
use Rattle.lti_machine.specs.declared.verdict.Verdict.{Verdict}
use Rattle.lti_machine.specs.declared.verdict.Verdict.TheVariants as nonce

-- 0 for a reply of the rules, and another number for each other one
abbrev pub kind : Reply → ℕ
kind (reply.JournalFull free) = 1
kind (reply.DiskFault faults) = 2
kind reply.RunFull = 3
kind reply.NoMemory = 4
kind _ = 0

result_is_plain : (asked : Action) (stands : Standing) → kind (result_of asked stands) ≡ 0
result_is_plain action.Note stands = refl
result_is_plain (action.Launch link user sourced_id service) stands = refl
result_is_plain (action.Replace id None) Unknown = refl
result_is_plain (action.Replace id None) Empty = refl
result_is_plain (action.Replace id None) (Scored old) = refl
result_is_plain (action.Replace id (Some score)) Unknown = refl
result_is_plain (action.Replace id (Some score)) Empty = refl
result_is_plain (action.Replace id (Some score)) (Scored old) = refl
result_is_plain (action.Read id) Unknown = refl
result_is_plain (action.Read id) Empty = refl
result_is_plain (action.Read id) (Scored old) = refl
result_is_plain (action.Delete id) Unknown = refl
result_is_plain (action.Delete id) Empty = refl
result_is_plain (action.Delete id) (Scored old) = refl
result_is_plain (action.Issue id) Unknown = refl
result_is_plain (action.Issue id) Empty = refl
result_is_plain (action.Issue id) (Scored old) = refl

by_verdict_is_plain : (v : Verdict) (now : ℕ) (given : Reply) → kind given ≡ 0 → kind (reply_by v now given) ≡ 0
by_verdict_is_plain nonce.New now given plain = plain
by_verdict_is_plain nonce.Outside now given plain = refl
by_verdict_is_plain nonce.Used now given plain = refl
by_verdict_is_plain (nonce.WindowFull live) now given plain = refl

-- what the rules decide is a reply of theirs
pub decided_is_plain : (entries : List Entry) (call : Call) (window : ℕ) → kind (decide entries call window) ≡ 0
decided_is_plain entries call window =
    let plain = result_is_plain call.action (standing_of entries call.key (id_of call.action)) in
    cond_both (is_issue call.action) (result entries call) (reply_by (verdict_of entries call window) (now_of entries call) (result entries call)) (λ (r : Reply). kind r ≡ 0)
    (λ _. plain)
    (λ _. by_verdict_is_plain (verdict_of entries call window) (now_of entries call) (result entries call) plain)
