-- The words of the command line, and what they ask (this project's own).
use Rattle.std.specs.Prelude.{◌≡◌, ◌≤◌, ℕ, Bool, true, false, List, [], ◌∷◌, length, map, codes, String, string_bytes, Option, Some, None}
use Rattle.lti_outside.specs.Decimal.{decimal_of}
use Rattle.oauth_text.specs.Form.{IsForm}
use Rattle.oauth_text.specs.Url.{UrlParts, IsUrl}
use Rattle.score_decimal.specs.Written.{IsWritten}
use Rattle.lti_words.specs.declared.command.Rounding.{Rounding}
use Rattle.lti_words.specs.declared.command.Rounding.TheVariants.{Floor, Nearest, Ceiling}

-- what `check` is asked
pub record CheckCommand : Type 0 where
  pub url : UrlParts
  pub key : List ℕ
  pub secret : List ℕ
  pub moment : ℕ

-- which id is to be issued, under which key
pub record IssueCommand : Type 0 where
  pub key : List ℕ
  pub id : List ℕ

-- which launch is to be printed as a form
pub record LaunchCommand : Type 0 where
  pub url : UrlParts
  pub key : List ℕ
  pub link : List ℕ
  pub user : List ℕ
  pub id : List ℕ
  pub service : List ℕ

-- which score is to be sent, for which user of which link
pub record PassbackCommand : Type 0 where
  pub key : List ℕ
  pub link : List ℕ
  pub user : List ℕ
  pub score : ℕ

-- how the grades are to be told
pub record GradesCommand : Type 0 where
  pub rounding : Rounding
  pub most : ℕ

abbrev pub texts : {A : Type 0} → List (String A) → List (List ℕ)
texts words = map string_bytes words

-- 1 to 255 bytes
abbrev pub IsKey : List ℕ → Type 0
IsKey text = (1 ≤ length text) × (length text ≤ 255)

-- 1 to 1023 bytes
abbrev pub IsName : List ℕ → Type 0
IsName text = (1 ≤ length text) × (length text ≤ 1023)

-- `check URL KEY SECRET MOMENT`: a key of 1 to 255 bytes, and a moment of 1 to 15 digits
pub record IsCheckWords (name url key secret moment : List ℕ) (check : CheckCommand) : Type 0 where
  pub named : name ≡ codes "check"
  pub url_is : IsUrl url check.url
  pub key_is : check.key ≡ key
  pub key_some : 1 ≤ length key
  pub key_short : length key ≤ 255
  pub secret_is : check.secret ≡ secret
  pub moment_is : decimal_of 15 moment ≡ Some check.moment

-- the words ask this of `check`
abbrev pub IsCheck : List (List ℕ) → CheckCommand → Type 0
IsCheck (name ∷ url ∷ key ∷ secret ∷ moment ∷ []) check = IsCheckWords name url key secret moment check
IsCheck _ check = ⊥

-- the one word `answer`
abbrev pub AsksAnswer : List (List ℕ) → Type 0
AsksAnswer words = words ≡ codes "answer" ∷ []

-- `issue KEY ID`: a key of 1 to 255 bytes, and an id of 1 to 1023 bytes
pub record IsIssueWords (name key id : List ℕ) (issue : IssueCommand) : Type 0 where
  pub named : name ≡ codes "issue"
  pub issue_is : issue ≡ record { key = key; id = id }
  pub key_fits : IsKey key
  pub id_fits : IsName id

abbrev pub IsIssue : List (List ℕ) → IssueCommand → Type 0
IsIssue (name ∷ key ∷ id ∷ []) issue = IsIssueWords name key id issue
IsIssue _ issue = ⊥

-- `launch URL KEY LINK USER ID SERVICE`: a key of 1 to 255 bytes, and a link, a user and an id of 1 to 1023 bytes
pub record IsLaunchWords (name url key link user id service : List ℕ) (launch : LaunchCommand) : Type 0 where
  pub named : name ≡ codes "launch"
  pub parts : UrlParts
  pub url_is : IsUrl url parts
  pub launch_is : launch ≡ record { url = parts; key = key; link = link; user = user; id = id; service = service }
  pub key_fits : IsKey key
  pub link_fits : IsName link
  pub user_fits : IsName user
  pub id_fits : IsName id

abbrev pub IsLaunch : List (List ℕ) → LaunchCommand → Type 0
IsLaunch (name ∷ url ∷ key ∷ link ∷ user ∷ id ∷ service ∷ []) launch = IsLaunchWords name url key link user id service launch
IsLaunch _ launch = ⊥

-- `passback ADDRESS KEY LINK USER SCORE`: a key of 1 to 255 bytes, a link and a user of 1 to 1023 bytes, and a score; the
-- address is for whoever connects
pub record IsPassbackWords (name key link user text : List ℕ) (passback : PassbackCommand) : Type 0 where
  pub named : name ≡ codes "passback"
  pub score : ℕ
  pub score_is : IsWritten text score
  pub passback_is : passback ≡ record { key = key; link = link; user = user; score = score }
  pub key_fits : IsKey key
  pub link_fits : IsName link
  pub user_fits : IsName user

abbrev pub IsPassback : List (List ℕ) → PassbackCommand → Type 0
IsPassback (name ∷ address ∷ key ∷ link ∷ user ∷ score ∷ []) passback = IsPassbackWords name key link user score passback
IsPassback _ passback = ⊥

-- the word of a rounding
abbrev pub rounding_word : Rounding → List ℕ
rounding_word Floor = codes "floor"
rounding_word Nearest = codes "nearest"
rounding_word Ceiling = codes "ceiling"

-- `grades SCALE MAX`: a rounding, and 1 to 7 digits from 1 to 1,000,000
pub record IsGradesWords (name rounding most : List ℕ) (grades : GradesCommand) : Type 0 where
  pub named : name ≡ codes "grades"
  pub rounding_is : rounding ≡ rounding_word grades.rounding
  pub most_is : decimal_of 7 most ≡ Some grades.most
  pub most_some : 1 ≤ grades.most
  pub most_small : grades.most ≤ 1000000

abbrev pub IsGrades : List (List ℕ) → GradesCommand → Type 0
IsGrades (name ∷ rounding ∷ most ∷ []) grades = IsGradesWords name rounding most grades
IsGrades _ grades = ⊥

-- a command, with what it asks
pub data CommandValue : Type 0 where
  check : CheckCommand → CommandValue
  answer : CommandValue
  issue : IssueCommand → CommandValue
  launch : LaunchCommand → CommandValue
  passback : PassbackCommand → CommandValue
  grades : GradesCommand → CommandValue

-- the words ask for this command
abbrev pub IsCommand : List (List ℕ) → CommandValue → Type 0
IsCommand words (check command) = IsCheck words command
IsCommand words answer = AsksAnswer words
IsCommand words (issue command) = IsIssue words command
IsCommand words (launch command) = IsLaunch words command
IsCommand words (passback command) = IsPassback words command
IsCommand words (grades command) = IsGrades words command

-- the words are no command
abbrev pub IsUsage : List (List ℕ) → Type 0
IsUsage words = (command : CommandValue) → IsCommand words command → ⊥

-- `serve ADDRESS`: two words, of which the second is any
pub record IsServeWords (name word address : List ℕ) : Type 0 where
  pub named : name ≡ codes "serve"
  pub address_is : address ≡ word

-- the words ask to serve at this address, which is for whoever listens there
abbrev pub AsksServe : List (List ℕ) → List ℕ → Type 0
AsksServe (name ∷ word ∷ []) address = IsServeWords name word address
AsksServe _ address = ⊥

-- Words that ask to serve ask for no command.
abbrev pub ServingIsNoCommand : Type 0
ServingIsNoCommand = (words : List (List ℕ)) (address : List ℕ) → AsksServe words address → IsUsage words

-- the command is done by the settings
abbrev pub uses_settings : CommandValue → Bool
uses_settings (check command) = false
uses_settings answer = true
uses_settings (issue command) = true
uses_settings (launch command) = true
uses_settings (passback command) = true
uses_settings (grades command) = false

-- the command is done over the journal of what was accepted
abbrev pub uses_journal : CommandValue → Bool
uses_journal (check command) = false
uses_journal answer = true
uses_journal (issue command) = true
uses_journal (launch command) = true
uses_journal (passback command) = true
uses_journal (grades command) = true

-- the command signs something, and so needs a nonce
abbrev pub signs : CommandValue → Bool
signs (launch command) = true
signs (passback command) = true
signs _ = false

-- the key of the settings that the command is done under
abbrev pub key_of : CommandValue → Option (List ℕ)
key_of (issue command) = Some command.key
key_of (launch command) = Some command.key
key_of (passback command) = Some command.key
key_of _ = None

-- the words ask for no command that needs settings
abbrev pub UsesNoSettings : List (List ℕ) → Type 0
UsesNoSettings words = (command : CommandValue) → IsCommand words command → uses_settings command ≡ false

-- the words ask for no command that needs the journal
abbrev pub UsesNoJournal : List (List ℕ) → Type 0
UsesNoJournal words = (command : CommandValue) → IsCommand words command → uses_journal command ≡ false

-- the words ask for nothing that this end signs
abbrev pub SignsNothing : List (List ℕ) → Type 0
SignsNothing words = (command : CommandValue) → IsCommand words command → signs command ≡ false

-- Words ask for one command at most.
abbrev pub AsksOnce : Type 0
AsksOnce = (words : List (List ℕ)) (one other : CommandValue) → IsCommand words one → IsCommand words other → one ≡ other

-- the parts of a check are in their ranges
pub record IsInRange (check : CheckCommand) : Type 0 where
  pub query : IsForm check.url.query
  pub key_some : 1 ≤ length check.key
  pub key_short : length check.key ≤ 255
  pub moment : check.moment ≤ 999999999999999
