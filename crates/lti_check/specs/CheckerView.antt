-- What a checker was made for, and what it answers.
use Rattle.std.specs.Prelude.{◌≡◌, ◌≤◌, ℕ, List, length}
use Rattle.lti_outside.specs.Limits as outside
use Rattle.oauth_request.specs.declared.checking.Signed.{Signed}
use Rattle.lti_machine.specs.Sound.{IsSound, greatest_moment}
use Rattle.lti_words.specs.Command.{CheckCommand}
use Rattle.lti_words.specs.CommandView.{check_of}
use Rattle.lti_check.specs.Checked.{terms_of, HasFault, IsWellSigned}
use Rattle.lti_check.specs.Verdicts.{line_call}
use Rattle.lti_check.specs.declared.checker.Checker.{Checker}
use Rattle.lti_check.specs.declared.checker.Checked.{Checked}
use Rattle.lti_check.specs.declared.checker.Checked.TheVariants.{BadForm, BadSignature, Signed as Call}

-- what the command asks
abbrev pub asked : Checker → CheckCommand
asked checker = check_of checker.check.now

-- what was made ready for the command is right, and its words are in their ranges
pub record IsReady (checker : Checker) : Type 0 where
  pub keys : checker.keys ≡ (terms_of (asked checker) checker.limits.field).keys
  pub key_some : 1 ≤ length (asked checker).key
  pub key_short : length (asked checker).key ≤ 255
  pub moment : (asked checker).moment ≤ greatest_moment
  pub sound : outside.IsSound checker.limits

-- which kind of request the form is
abbrev pub IsChecked : CheckCommand → ℕ → List ℕ → Checked → Type 0
IsChecked command field form BadForm = HasFault 400 command field form
IsChecked command field form BadSignature = HasFault 401 command field form
IsChecked command field form (Call call) = IsSound call × (signed : Signed) × IsWellSigned command field form signed × (call ≡ line_call command signed)
