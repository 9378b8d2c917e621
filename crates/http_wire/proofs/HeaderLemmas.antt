-- The bytes of headers that are read, and the host among them.
use Rattle.std.proofs.Common.{◌≡◌, ℕ, ◌<◌, ◌≤◌, ◌&&◌, ◌||◌, ◌==◌, not, Bool, true, false, cond, List, [], ◌∷◌, length, filter, map, codes, IsAscii, Option, refl, sym, ap, ◌∙◌, subst, ⊎_elim, arith}
use Rattle.std.specs.List.{list_all, list_any}
use Rattle.std.proofs.lemmas.Bool.{cases_Bool}
use Rattle.std.proofs.lemmas.Bool.Decides.{nat_tests}
use Rattle.std.proofs.lemmas.List.{nil_from_length}
use Rattle.std.proofs.lemmas.List.Elements.{All-weaker, All-cons}
use Rattle.std.proofs.lemmas.List.Sums.{AllPass-from_list_all}
use Rattle.std.proofs.lemmas.Str.Ascii.{IsAscii-nil, IsAscii-from_all}
use Rattle.httparse.specs.Grammar.{is_token_byte, IsToken}
use Rattle.oauth_text.specs.Host.{is_host, IsHostOf}
use Rattle.lti_outside.proofs.BoolLemmas.{and_split}
use Rattle.http_wire.specs.Headers.{is_named, values_of, first_in, is_text_byte, is_body_header, is_read_header, is_bad_header, has_bad_header, is_one_host}
use Rattle.http_wire.specs.Head.{is_target_byte, is_target}

pub neither : (x y : Bool) → (x || y) ≡ false → (x ≡ false) × (y ≡ false)
neither true y none = absurd (cc)
neither false y none = (refl, none)

pub or_left : (x y : Bool) → x ≡ true → (x || y) ≡ true
or_left true y is = refl
or_left false y is = absurd (cc)

pub or_right : (x y : Bool) → y ≡ true → (x || y) ≡ true
or_right true y is = refl
or_right false y is = is

small_text_byte : (b : ℕ) → is_text_byte b ≡ true → b < 128
small_text_byte b test = grind (arith, nat_tests)

text_is_ascii : (value : List ℕ) → list_all is_text_byte value ≡ true → IsAscii value
text_is_ascii value test =
    IsAscii-from_all value (All-weaker (λ b. is_text_byte b ≡ true) (λ b. b < 128) small_text_byte value (AllPass-from_list_all is_text_byte value test))

good_value : (read text : Bool) → (read && not text) ≡ false → read ≡ true → text ≡ true
good_value true true good is = refl
good_value true false good is = absurd (cc)
good_value false text good is = absurd (cc)

-- the first value of a header that is read is text
first_is_text : (name : List ℕ) (headers : List (List ℕ × List ℕ)) → ((h : List ℕ × List ℕ) → is_named name h ≡ true → is_read_header h ≡ true)
    → list_any is_bad_header headers ≡ false → list_all is_text_byte (first_in (values_of name headers)) ≡ true
first_is_text name [] read good = refl
first_is_text name (h ∷ headers) read good =
    let both = neither (is_bad_header h) (list_any is_bad_header headers) good in
    let rest = filter (is_named name) headers in
    ⊎_elim
    (λ named.
    subst (λ (b : Bool). list_all is_text_byte (first_in (map (λ (x : List ℕ × List ℕ). x.1) (cond b (h ∷ rest) rest))) ≡ true) (sym named)
    (good_value (is_read_header h) (list_all is_text_byte h.1) both.0 (read h named)))
    (λ other.
    subst (λ (b : Bool). list_all is_text_byte (first_in (map (λ (x : List ℕ × List ℕ). x.1) (cond b (h ∷ rest) rest))) ≡ true) (sym other)
    (first_is_text name headers read both.1))
    (cases_Bool (is_named name h))

all_good : (headers : List (List ℕ × List ℕ)) → has_bad_header headers ≡ false → list_any is_bad_header headers ≡ false
all_good headers good = (neither _ _ (neither _ _ good).1).1

host_text_value : (headers : List (List ℕ × List ℕ)) → has_bad_header headers ≡ false → list_all is_text_byte (first_in (values_of (codes "Host") headers)) ≡ true
host_text_value headers good =
    first_is_text (codes "Host") headers (λ h named. or_right (is_body_header h) _ (or_left (is_named (codes "Host") h) _ named)) (all_good headers good)

-- the media type and the authorization are text
pub first_text : (headers : List (List ℕ × List ℕ)) → has_bad_header headers ≡ false
    → (list_all is_text_byte (first_in (values_of (codes "Content-Type") headers)) ≡ true) × (list_all is_text_byte (first_in (values_of (codes "Authorization") headers)) ≡ true)
first_text headers good = (
  first_is_text (codes "Content-Type") headers
      (λ h named. or_left (is_body_header h) _ (or_right (is_named (codes "Content-Length") h) _ (or_left (is_named (codes "Content-Type") h) _ named)))
      (all_good headers good),
  first_is_text (codes "Authorization") headers
      (λ h named. or_right (is_body_header h) _ (or_right (is_named (codes "Host") h) _ (or_left (is_named (codes "Authorization") h) _ named)))
      (all_good headers good),
)

pub host_is_ascii : (headers : List (List ℕ × List ℕ)) → has_bad_header headers ≡ false → IsAscii (first_in (values_of (codes "Host") headers))
host_is_ascii headers good = text_is_ascii (first_in (values_of (codes "Host") headers)) (host_text_value headers good)

pub authorization_is_ascii : (headers : List (List ℕ × List ℕ)) → has_bad_header headers ≡ false → IsAscii (first_in (values_of (codes "Authorization") headers))
authorization_is_ascii headers good = text_is_ascii (first_in (values_of (codes "Authorization") headers)) (first_text headers good).1

pub media_is_ascii : (headers : List (List ℕ × List ℕ)) → has_bad_header headers ≡ false → IsAscii (first_in (values_of (codes "Content-Type") headers))
media_is_ascii headers good = text_is_ascii (first_in (values_of (codes "Content-Type") headers)) (first_text headers good).0

small_target_byte : (b : ℕ) → is_target_byte b ≡ true → b < 128
small_target_byte b test = grind (arith, nat_tests)

is_byte : (b c : ℕ) → (b == c) ≡ true → b ≡ c
is_byte b c test = grind (arith, nat_tests)

pub target_is_ascii : (target : List ℕ) → is_target target ≡ true → IsAscii target
target_is_ascii [] test = IsAscii-nil
target_is_ascii (b ∷ bytes) test =
    let both = and_split (b == 47) (list_all is_target_byte bytes) test in
    IsAscii-from_all (b ∷ bytes)
    (All-cons (λ (c : ℕ). c < 128) b bytes (omega (arith, is_byte b 47 both.0))
    (All-weaker (λ c. is_target_byte c ≡ true) (λ c. c < 128) small_target_byte bytes (AllPass-from_list_all is_target_byte bytes both.1)))

small_token_byte : (b : ℕ) → is_token_byte b ≡ true → b < 128
unfolding is_token_byte
small_token_byte b test = grind (arith, nat_tests)

pub token_is_ascii : (bytes : List ℕ) → IsToken bytes → IsAscii bytes
token_is_ascii bytes token =
    IsAscii-from_all bytes (All-weaker (λ b. is_token_byte b ≡ true) (λ b. b < 128) small_token_byte bytes token.1)

-- one value, where there is one at least and at most
pub one_value : (values others : List (List ℕ)) (value : List ℕ) → values ≡ value ∷ others → length values ≤ 1 → values ≡ value ∷ []
one_value values others value is few =
    let counted = ap length is in
    is ∙ ap (λ rest. value ∷ rest) (nil_from_length others (omega (arith, counted, few)))

pub host_found : (values : List (List ℕ)) (value text name : List ℕ) (port : Option ℕ) → values ≡ value ∷ [] → text ≡ value → IsHostOf text name port
    → (is_one_host values ≡ true) × IsHostOf (first_in values) name port
host_found values value text name port one same is =
    let moved = subst (λ (t : List ℕ). IsHostOf t name port) same is in
    (ap is_one_host one ∙ moved.0, subst (λ (v : List (List ℕ)). IsHostOf (first_in v) name port) (sym one) moved)

pub host_bad : (values : List (List ℕ)) (value text : List ℕ) → values ≡ value ∷ [] → text ≡ value → is_host text ≡ false → is_one_host values ≡ false
host_bad values value text one same bad = ap is_one_host one ∙ ap is_host (sym same) ∙ bad
