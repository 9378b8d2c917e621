-- What a run of `launch` did (this project's own).
use Rattle.std.specs.Prelude.{◌≡◌, ◌≢◌, ℕ, List, [], ◌∷◌, ◌++◌, Option}
use Rattle.lti_outside.specs.Traffic.{Traffic, Moves, no_fault, GivesFront}
use Rattle.lti_outside.specs.declared.pairs.Pair.{Pair}
use Rattle.oauth_text.specs.Form.{IsForm, pairs_of}
use Rattle.oauth_request.specs.Signing.{IsSignedForm}
use Rattle.lti_machine.specs.Standings.{standing}
use Rattle.lti_machine.specs.declared.entry.Entry.{Entry}
use Rattle.lti_machine.specs.declared.standing.Standing.TheVariants.{Unknown}
use Rattle.lti_consumer.specs.Launches.{launch_fields}
use Rattle.lti_words.specs.Command.{LaunchCommand}
use Rattle.lti_operator.specs.Made.{IsMadeMoment, IsMadeNonce}
use Rattle.lti_words.specs.declared.status.Status.{Status}
use Rattle.lti_words.specs.declared.status.Status.TheVariants as ends

-- what the launch says: its link, its user, the id that takes its grade, and the service that takes it
abbrev pub fields_of : LaunchCommand → List Pair
fields_of launch = launch_fields record { link = launch.link; user = launch.user; sourced_id = launch.id; service = launch.service }

-- the text is the launch as a signed form, and LF
pub record IsFormOf (launch : LaunchCommand) (secret : List ℕ) (clock : Option ℕ) (random random' : Option (List ℕ)) (text : List ℕ) : Type 0 where
  pub moment : ℕ
  pub nonce : List ℕ
  pub signed : List Pair
  pub form : List ℕ
  pub moment_is : IsMadeMoment clock moment
  pub nonce_is : IsMadeNonce random random' nonce
  pub is_signed : IsSignedForm launch.url (fields_of launch) launch.key secret moment nonce signed
  pub is_form : IsForm form
  pub pairs : pairs_of form ≡ signed
  pub text_is : text ≡ form ++ 10 ∷ []

-- The form was written, or a front of it where a write failed; or nothing was, since the id isn't issued under the key by these
-- entries, or memory ran out.
abbrev pub IsLaunched : LaunchCommand → List ℕ → List Entry → Option ℕ → Option (List ℕ) → Option (List ℕ) → Traffic → Traffic → Status → Type 0
IsLaunched launch secret entries clock random random' before after ends.Done =
    (standing entries launch.key launch.id ≢ Unknown)
    × (text : List ℕ) × IsFormOf launch secret clock random random' text × Moves before after [] text no_fault
IsLaunched launch secret entries clock random random' before after ends.WriteFault =
    (standing entries launch.key launch.id ≢ Unknown)
    × (text : List ℕ) × IsFormOf launch secret clock random random' text × GivesFront before after text
IsLaunched launch secret entries clock random random' before after ends.NotIssued =
    (standing entries launch.key launch.id ≡ Unknown) × (after ≡ before)
IsLaunched launch secret entries clock random random' before after ends.NoMemory = after ≡ before
IsLaunched launch secret entries clock random random' before after _ = ⊥
