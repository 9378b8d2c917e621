-- The words of commands.
use Rattle.std.proofs.Common.{◌≡◌, ◌↔◌, Bool, IsTrue, ℕ, suc, ◌<◌, ◌≤◌, ◌+◌, ◌^◌, codes, String, List, [], ◌∷◌, length, get_or, refl, sym, ap, ◌∙◌, subst, ⊎_elim, arith, Some, None}
use Rattle.std.specs.Str.Parse.{digits_value}
use Rattle.std.proofs.lemmas.Bool.{cond-true, cond-false, cases_Bool}
use Rattle.std.proofs.lemmas.List.{take_all}
use Rattle.lti_outside.specs.Decimal.{is_decimal, decimal_of}
use Rattle.lti_outside.proofs.DigitLemmas.{digits_small, decimal_parts}
use Rattle.oauth_text.specs.Form.{IsForm}
use Rattle.oauth_text.specs.Url.{UrlParts}
use Rattle.score_decimal.proofs.WritingLemmas.{number_once}
use Rattle.lti_words.specs.Command.{IsKey, IsName, CheckCommand, IsCheck, IsInRange, AsksAnswer, IssueCommand, IsIssue, LaunchCommand, IsLaunch, PassbackCommand, IsPassback, GradesCommand, IsGrades, CommandValue, IsCommand, AsksOnce, AsksServe, ServingIsNoCommand, rounding_word, texts}
use Rattle.lti_words.specs.Command.CommandValue.{check, answer, issue, launch, passback, grades}
use Rattle.lti_words.specs.declared.command.Rounding.{Rounding}
use Rattle.lti_words.specs.declared.command.Rounding.TheVariants.{Floor, Nearest, Ceiling}

pub three : {X : Type 0} (ws : List X) (a b c : X) → length ws ≡ 3
    → a ≡ get_or ws 0 a → b ≡ get_or ws 1 b → c ≡ get_or ws 2 c
    → ws ≡ a ∷ b ∷ c ∷ []
three [] a b c len a_is b_is c_is = absurd (cc)
three (p ∷ []) a b c len a_is b_is c_is = absurd (cc)
three (p ∷ q ∷ []) a b c len a_is b_is c_is = absurd (cc)
three (p ∷ q ∷ r ∷ []) a b c len a_is b_is c_is = cc
three (p ∷ q ∷ r ∷ w ∷ ws) a b c len a_is b_is c_is = absurd (cc)

pub five : {X : Type 0} (ws : List X) (a b c d e : X) → length ws ≡ 5
    → a ≡ get_or ws 0 a → b ≡ get_or ws 1 b → c ≡ get_or ws 2 c → d ≡ get_or ws 3 d → e ≡ get_or ws 4 e
    → ws ≡ a ∷ b ∷ c ∷ d ∷ e ∷ []
five [] a b c d e len av bw cx dy ez = absurd (cc)
five (v ∷ []) a b c d e len av bw cx dy ez = absurd (cc)
five (v ∷ w ∷ []) a b c d e len av bw cx dy ez = absurd (cc)
five (v ∷ w ∷ x ∷ []) a b c d e len av bw cx dy ez = absurd (cc)
five (v ∷ w ∷ x ∷ y ∷ []) a b c d e len av bw cx dy ez = absurd (cc)
five (v ∷ w ∷ x ∷ y ∷ z ∷ []) a b c d e len av bw cx dy ez = cc
five (v ∷ w ∷ x ∷ y ∷ z ∷ u ∷ us) a b c d e len av bw cx dy ez = absurd (cc)

pub six : {X : Type 0} (ws : List X) (a c d e f : X) → length ws ≡ 6
    → a ≡ get_or ws 0 a → c ≡ get_or ws 2 c → d ≡ get_or ws 3 d → e ≡ get_or ws 4 e → f ≡ get_or ws 5 f
    → ws ≡ a ∷ get_or ws 1 a ∷ c ∷ d ∷ e ∷ f ∷ []
six [] a c d e f len a_is c_is d_is e_is f_is = absurd (cc)
six (p ∷ []) a c d e f len a_is c_is d_is e_is f_is = absurd (cc)
six (p ∷ q ∷ []) a c d e f len a_is c_is d_is e_is f_is = absurd (cc)
six (p ∷ q ∷ r ∷ []) a c d e f len a_is c_is d_is e_is f_is = absurd (cc)
six (p ∷ q ∷ r ∷ s ∷ []) a c d e f len a_is c_is d_is e_is f_is = absurd (cc)
six (p ∷ q ∷ r ∷ s ∷ t ∷ []) a c d e f len a_is c_is d_is e_is f_is = absurd (cc)
six (p ∷ q ∷ r ∷ s ∷ t ∷ u ∷ []) a c d e f len a_is c_is d_is e_is f_is = cc
six (p ∷ q ∷ r ∷ s ∷ t ∷ u ∷ w ∷ ws) a c d e f len a_is c_is d_is e_is f_is = absurd (cc)

pub seven : {X : Type 0} (ws : List X) (a b c d e f g : X) → length ws ≡ 7
    → a ≡ get_or ws 0 a → b ≡ get_or ws 1 b → c ≡ get_or ws 2 c → d ≡ get_or ws 3 d → e ≡ get_or ws 4 e → f ≡ get_or ws 5 f → g ≡ get_or ws 6 g
    → ws ≡ a ∷ b ∷ c ∷ d ∷ e ∷ f ∷ g ∷ []
seven [] a b c d e f g len a_is b_is c_is d_is e_is f_is g_is = absurd (cc)
seven (p ∷ []) a b c d e f g len a_is b_is c_is d_is e_is f_is g_is = absurd (cc)
seven (p ∷ q ∷ []) a b c d e f g len a_is b_is c_is d_is e_is f_is g_is = absurd (cc)
seven (p ∷ q ∷ r ∷ []) a b c d e f g len a_is b_is c_is d_is e_is f_is g_is = absurd (cc)
seven (p ∷ q ∷ r ∷ s ∷ []) a b c d e f g len a_is b_is c_is d_is e_is f_is g_is = absurd (cc)
seven (p ∷ q ∷ r ∷ s ∷ t ∷ []) a b c d e f g len a_is b_is c_is d_is e_is f_is g_is = absurd (cc)
seven (p ∷ q ∷ r ∷ s ∷ t ∷ u ∷ []) a b c d e f g len a_is b_is c_is d_is e_is f_is g_is = absurd (cc)
seven (p ∷ q ∷ r ∷ s ∷ t ∷ u ∷ v ∷ []) a b c d e f g len a_is b_is c_is d_is e_is f_is g_is = cc
seven (p ∷ q ∷ r ∷ s ∷ t ∷ u ∷ v ∷ w ∷ ws) a b c d e f g len a_is b_is c_is d_is e_is f_is g_is = absurd (cc)

pub one : {X : Type 0} (ws : List X) (a : X) → length ws ≡ 1 → a ≡ get_or ws 0 a → ws ≡ a ∷ []
one [] a len av = absurd (cc)
one (v ∷ []) a len av = cc
one (v ∷ w ∷ ws) a len av = absurd (cc)

-- one text is that text
pub one_text : (same : Bool) (a b : List ℕ) → IsTrue same ↔ (a ≡ b) → IsTrue same ↔ (a ∷ [] ≡ b ∷ [])
one_text same a b are = (λ holds. ap (λ (x : List ℕ). x ∷ []) (are.0 holds), λ is. are.1 (cc))

pub IsCheck-length : (ws : List (List ℕ)) (asked : CheckCommand) → IsCheck ws asked → length ws ≡ 5
IsCheck-length (name ∷ url ∷ key ∷ secret ∷ moment ∷ []) asked is = refl
IsCheck-length _ asked is = absurd is

pub IsIssue-length : (ws : List (List ℕ)) (asked : IssueCommand) → IsIssue ws asked → length ws ≡ 3
IsIssue-length (name ∷ key ∷ id ∷ []) asked is = refl
IsIssue-length _ asked is = absurd is

pub IsLaunch-length : (ws : List (List ℕ)) (asked : LaunchCommand) → IsLaunch ws asked → length ws ≡ 7
IsLaunch-length (name ∷ url ∷ key ∷ link ∷ user ∷ id ∷ service ∷ []) asked is = refl
IsLaunch-length _ asked is = absurd is

pub IsPassback-length : (ws : List (List ℕ)) (asked : PassbackCommand) → IsPassback ws asked → length ws ≡ 6
IsPassback-length (name ∷ address ∷ key ∷ link ∷ user ∷ score ∷ []) asked is = refl
IsPassback-length _ asked is = absurd is

pub IsGrades-length : (ws : List (List ℕ)) (asked : GradesCommand) → IsGrades ws asked → length ws ≡ 3
IsGrades-length (name ∷ rounding ∷ most ∷ []) asked is = refl
IsGrades-length _ asked is = absurd is

pub two : {X : Type 0} (ws : List X) (a b : X) → length ws ≡ 2 → a ≡ get_or ws 0 a → b ≡ get_or ws 1 b → ws ≡ a ∷ b ∷ []
two [] a b len a_is b_is = absurd (cc)
two (p ∷ []) a b len a_is b_is = absurd (cc)
two (p ∷ q ∷ []) a b len a_is b_is = cc
two (p ∷ q ∷ r ∷ ws) a b len a_is b_is = absurd (cc)

pub AsksServe-length : (ws : List (List ℕ)) (at : List ℕ) → AsksServe ws at → length ws ≡ 2
AsksServe-length (name ∷ word ∷ []) at is = refl
AsksServe-length _ at is = absurd is

-- the number of the words and of the first one's bytes together, another for each command
abbrev kind_number : List (List ℕ) → ℕ
kind_number [] = 0
kind_number (name ∷ words) = length (name ∷ words) + length name

-- which command words of some kind ask for
pub AsksAnswer-kind : (ws : List (List ℕ)) → AsksAnswer ws → kind_number ws ≡ 7
AsksAnswer-kind ws is = ap kind_number is

pub IsCheck-kind : (ws : List (List ℕ)) (asked : CheckCommand) → IsCheck ws asked → kind_number ws ≡ 10
IsCheck-kind (name ∷ url ∷ key ∷ secret ∷ moment ∷ []) asked is = ap (λ (n : List ℕ). 5 + length n) is.named
IsCheck-kind _ asked is = absurd is

pub IsIssue-kind : (ws : List (List ℕ)) (asked : IssueCommand) → IsIssue ws asked → kind_number ws ≡ 8
IsIssue-kind (name ∷ key ∷ id ∷ []) asked is = ap (λ (n : List ℕ). 3 + length n) is.named
IsIssue-kind _ asked is = absurd is

pub IsLaunch-kind : (ws : List (List ℕ)) (asked : LaunchCommand) → IsLaunch ws asked → kind_number ws ≡ 13
IsLaunch-kind (name ∷ url ∷ key ∷ link ∷ user ∷ id ∷ service ∷ []) asked is = ap (λ (n : List ℕ). 7 + length n) is.named
IsLaunch-kind _ asked is = absurd is

pub IsPassback-kind : (ws : List (List ℕ)) (asked : PassbackCommand) → IsPassback ws asked → kind_number ws ≡ 14
IsPassback-kind (name ∷ address ∷ key ∷ link ∷ user ∷ score ∷ []) asked is = ap (λ (n : List ℕ). 6 + length n) is.named
IsPassback-kind _ asked is = absurd is

pub IsGrades-kind : (ws : List (List ℕ)) (asked : GradesCommand) → IsGrades ws asked → kind_number ws ≡ 9
IsGrades-kind (name ∷ rounding ∷ most ∷ []) asked is = ap (λ (n : List ℕ). 3 + length n) is.named
IsGrades-kind _ asked is = absurd is

pub texts-length : {A : Type 0} (ws : List (String A)) → length (texts ws) ≡ length ws
texts-length [] = refl
texts-length (w ∷ ws) = ap suc (texts-length ws)

-- fifteen digits are a small number
decimal_range : (text : List ℕ) (n : ℕ) → decimal_of 15 text ≡ Some n → n ≤ 999999999999999
decimal_range text n is =
    ⊎_elim
    (λ digits.
    let form = decimal_parts 15 text digits in
    let small = subst (λ (t : List ℕ). digits_value 10 t < 10 ^ 15) (take_all (length text) text (omega arith)) (digits_small (length text) text form.0 form.2) in
    let value : Some (digits_value 10 text) ≡ Some n = sym (cond-true (is_decimal 15 text) (Some (digits_value 10 text)) None digits) ∙ is in
    let same : digits_value 10 text ≡ n = cc in
    omega (arith, small))
    (λ other.
    let value : None ≡ Some n = sym (cond-false (is_decimal 15 text) (Some (digits_value 10 text)) None other) ∙ is in
    absurd (cc))
    (cases_Bool (is_decimal 15 text))

-- the parts of a command are in their ranges
pub IsCheck-range : (ws : List (List ℕ)) (asked : CheckCommand) → IsCheck ws asked → IsInRange asked
IsCheck-range (name ∷ url ∷ key ∷ secret ∷ moment ∷ []) asked is = record {
  query = subst IsForm (ap (λ (u : UrlParts). u.query) is.url_is.2) is.url_is.1;
  key_some = subst (λ (k : List ℕ). 1 ≤ length k) (sym is.key_is) is.key_some;
  key_short = subst (λ (k : List ℕ). length k ≤ 255) (sym is.key_is) is.key_short;
  moment = decimal_range moment asked.moment is.moment_is;
}
IsCheck-range _ asked is = absurd is

pub IsIssue-key : (ws : List (List ℕ)) (asked : IssueCommand) → IsIssue ws asked → IsKey asked.key
IsIssue-key (name ∷ key ∷ id ∷ []) asked is = subst (λ (c : IssueCommand). IsKey c.key) (sym is.issue_is) is.key_fits
IsIssue-key _ asked is = absurd is

pub IsLaunch-fits : (ws : List (List ℕ)) (asked : LaunchCommand) → IsLaunch ws asked → IsKey asked.key × IsName asked.link
IsLaunch-fits (name ∷ url ∷ key ∷ link ∷ user ∷ id ∷ service ∷ []) asked is =
    subst (λ (c : LaunchCommand). IsKey c.key × IsName c.link) (sym is.launch_is) (is.key_fits, is.link_fits)
IsLaunch-fits _ asked is = absurd is

pub IsPassback-key : (ws : List (List ℕ)) (asked : PassbackCommand) → IsPassback ws asked → IsKey asked.key
IsPassback-key (name ∷ address ∷ key ∷ link ∷ user ∷ text ∷ []) asked is = subst (λ (c : PassbackCommand). IsKey c.key) (sym is.passback_is) is.key_fits
IsPassback-key _ asked is = absurd is

pub IsGrades-range : (ws : List (List ℕ)) (asked : GradesCommand) → IsGrades ws asked → (1 ≤ asked.most) × (asked.most ≤ 1000000)
IsGrades-range (name ∷ rounding ∷ most ∷ []) asked is = (is.most_some, is.most_small)
IsGrades-range _ asked is = absurd is

-- the words ask one thing
pub IsCheck-once : (ws : List (List ℕ)) (a b : CheckCommand) → IsCheck ws a → IsCheck ws b → a ≡ b
IsCheck-once (name ∷ url ∷ key ∷ secret ∷ moment ∷ []) a b first second =
    let urls : a.url ≡ b.url = sym first.url_is.2 ∙ second.url_is.2 in
    let keys : a.key ≡ b.key = first.key_is ∙ sym second.key_is in
    let secrets : a.secret ≡ b.secret = first.secret_is ∙ sym second.secret_is in
    let some : Some a.moment ≡ Some b.moment = sym first.moment_is ∙ second.moment_is in
    let moments : a.moment ≡ b.moment = cc in
    λ i. record { url = urls i; key = keys i; secret = secrets i; moment = moments i }
IsCheck-once _ a b first second = absurd first

-- the words of `issue` ask one thing
pub IsIssue-once : (ws : List (List ℕ)) (a b : IssueCommand) → IsIssue ws a → IsIssue ws b → a ≡ b
IsIssue-once (name ∷ key ∷ id ∷ []) a b first second = first.issue_is ∙ sym second.issue_is
IsIssue-once _ a b first second = absurd first

abbrev launch_words : List ℕ → List ℕ → List ℕ → List ℕ → List ℕ → UrlParts → LaunchCommand
launch_words key link user id service url = record { url = url; key = key; link = link; user = user; id = id; service = service }

pub IsLaunch-once : (ws : List (List ℕ)) (a b : LaunchCommand) → IsLaunch ws a → IsLaunch ws b → a ≡ b
IsLaunch-once (name ∷ url ∷ key ∷ link ∷ user ∷ id ∷ service ∷ []) a b first second =
    let urls : first.parts ≡ second.parts = sym first.url_is.2 ∙ second.url_is.2 in
    first.launch_is ∙ ap (launch_words key link user id service) urls ∙ sym second.launch_is
IsLaunch-once _ a b first second = absurd first

abbrev passback_words : List ℕ → List ℕ → List ℕ → ℕ → PassbackCommand
passback_words key link user score = record { key = key; link = link; user = user; score = score }

pub IsPassback-once : (ws : List (List ℕ)) (a b : PassbackCommand) → IsPassback ws a → IsPassback ws b → a ≡ b
IsPassback-once (name ∷ address ∷ key ∷ link ∷ user ∷ text ∷ []) a b first second =
    let scores : first.score ≡ second.score = number_once text first.score second.score first.score_is second.score_is in
    first.passback_is ∙ ap (passback_words key link user) scores ∙ sym second.passback_is
IsPassback-once _ a b first second = absurd first

-- no two roundings have one word
floor_nearest : rounding_word Floor ≡ rounding_word Nearest → ⊥
floor_nearest is = let letters : 102 ≡ 110 = ap (λ (t : List ℕ). get_or t 0 0) is in absurd (omega (arith, letters))

floor_ceiling : rounding_word Floor ≡ rounding_word Ceiling → ⊥
floor_ceiling is = let letters : 102 ≡ 99 = ap (λ (t : List ℕ). get_or t 0 0) is in absurd (omega (arith, letters))

nearest_ceiling : rounding_word Nearest ≡ rounding_word Ceiling → ⊥
nearest_ceiling is = let letters : 110 ≡ 99 = ap (λ (t : List ℕ). get_or t 0 0) is in absurd (omega (arith, letters))

rounding_word-once : (a b : Rounding) → rounding_word a ≡ rounding_word b → a ≡ b
rounding_word-once Floor Floor is = refl
rounding_word-once Floor Nearest is = absurd (floor_nearest is)
rounding_word-once Floor Ceiling is = absurd (floor_ceiling is)
rounding_word-once Nearest Floor is = absurd (floor_nearest (sym is))
rounding_word-once Nearest Nearest is = refl
rounding_word-once Nearest Ceiling is = absurd (nearest_ceiling is)
rounding_word-once Ceiling Floor is = absurd (floor_ceiling (sym is))
rounding_word-once Ceiling Nearest is = absurd (nearest_ceiling (sym is))
rounding_word-once Ceiling Ceiling is = refl

-- a word of none of the three is none of them
pub no_rounding : (word : List ℕ) → (word ≡ codes "floor" → ⊥) → (word ≡ codes "nearest" → ⊥) → (word ≡ codes "ceiling" → ⊥)
    → (rounding : Rounding) → word ≡ rounding_word rounding → ⊥
no_rounding word floor nearest ceiling Floor is = floor is
no_rounding word floor nearest ceiling Nearest is = nearest is
no_rounding word floor nearest ceiling Ceiling is = ceiling is

pub IsGrades-once : (ws : List (List ℕ)) (a b : GradesCommand) → IsGrades ws a → IsGrades ws b → a ≡ b
IsGrades-once (name ∷ rounding ∷ most ∷ []) a b first second =
    let roundings : a.rounding ≡ b.rounding = rounding_word-once a.rounding b.rounding (sym first.rounding_is ∙ second.rounding_is) in
    let some : Some a.most ≡ Some b.most = sym first.most_is ∙ second.most_is in
    let mosts : a.most ≡ b.most = cc in
    λ i. record { rounding = roundings i; most = mosts i }
IsGrades-once _ a b first second = absurd first

-- the kind of the words that ask for a command
abbrev kind_of : CommandValue → ℕ
kind_of answer = 7
kind_of (issue command) = 8
kind_of (grades command) = 9
kind_of (check command) = 10
kind_of (launch command) = 13
kind_of (passback command) = 14

command_kind : (ws : List (List ℕ)) (c : CommandValue) → IsCommand ws c → kind_number ws ≡ kind_of c
command_kind ws answer is = AsksAnswer-kind ws is
command_kind ws (issue command) is = IsIssue-kind ws command is
command_kind ws (grades command) is = IsGrades-kind ws command is
command_kind ws (check command) is = IsCheck-kind ws command is
command_kind ws (launch command) is = IsLaunch-kind ws command is
command_kind ws (passback command) is = IsPassback-kind ws command is

apart : (ws : List (List ℕ)) (a b : CommandValue) → IsCommand ws a → IsCommand ws b → kind_of a ≡ kind_of b
apart ws a b first second = sym (command_kind ws a first) ∙ command_kind ws b second

pub words_ask_once : AsksOnce
words_ask_once ws answer answer first second = refl
words_ask_once ws (issue a) (issue b) first second = ap issue (IsIssue-once ws a b first second)
words_ask_once ws (grades a) (grades b) first second = ap grades (IsGrades-once ws a b first second)
words_ask_once ws (check a) (check b) first second = ap check (IsCheck-once ws a b first second)
words_ask_once ws (launch a) (launch b) first second = ap launch (IsLaunch-once ws a b first second)
words_ask_once ws (passback a) (passback b) first second = ap passback (IsPassback-once ws a b first second)
words_ask_once ws a b first second = absurd (omega (arith, apart ws a b first second))

-- how many words a command has
abbrev words_of : CommandValue → ℕ
words_of answer = 1
words_of (issue command) = 3
words_of (grades command) = 3
words_of (check command) = 5
words_of (launch command) = 7
words_of (passback command) = 6

command_length : (ws : List (List ℕ)) (c : CommandValue) → IsCommand ws c → length ws ≡ words_of c
command_length ws answer is = ap (λ (w : List (List ℕ)). length w) is
command_length ws (issue command) is = IsIssue-length ws command is
command_length ws (grades command) is = IsGrades-length ws command is
command_length ws (check command) is = IsCheck-length ws command is
command_length ws (launch command) is = IsLaunch-length ws command is
command_length ws (passback command) is = IsPassback-length ws command is

not_two : (c : CommandValue) → words_of c ≡ 2 → ⊥
not_two answer is = absurd (omega (arith, is))
not_two (issue command) is = absurd (omega (arith, is))
not_two (grades command) is = absurd (omega (arith, is))
not_two (check command) is = absurd (omega (arith, is))
not_two (launch command) is = absurd (omega (arith, is))
not_two (passback command) is = absurd (omega (arith, is))

pub serving_is_no_command : ServingIsNoCommand
serving_is_no_command ws at serves command is = not_two command (sym (command_length ws command is) ∙ AsksServe-length ws at serves)
