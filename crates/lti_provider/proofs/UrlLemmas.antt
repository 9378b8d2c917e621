-- The parts of a URL, as the parts of a request.
use Rattle.std.proofs.Common.{◌≡◌, ℕ, suc, ◌+◌, ◌<◌, ◌==◌, ◌||◌, ◌&&◌, nat_le, not, Bool, true, false, cond, List, [], ◌∷◌, take, drop, refl, sym, ap, ◌∙◌, subst, arith, ⊎_elim}
use Rattle.std.specs.Bool.{⊤}
use Rattle.std.specs.List.{list_all, before_first}
use Rattle.std.proofs.lemmas.Bool.{cases_Bool, cond-true, agree_below, agree_below_at}
use Rattle.std.proofs.lemmas.Bool.Decides.{nat_tests}
use Rattle.lti_outside.proofs.BoolLemmas.{and_split, or_split}
use Rattle.oauth_text.specs.Host.{is_host, IsHostOf}
use Rattle.oauth_text.specs.Url as url
use Rattle.oauth_text.specs.Url.{UrlParts, IsUrl, host_len, host_text, target_text, path_len, path_of, is_https, is_http}
use Rattle.http_wire.specs.Head.{is_target_byte, is_target}
use Rattle.http_wire.specs.Written.{is_path}
use Rattle.http_wire.proofs.BackHost.{and_join, implied}
use Rattle.http_wire.proofs.OnlyTexts.{first_cut, cut_bytes}

-- ---- the bytes of a URL may stand in a target
bytes_agree : agree_below (λ b. not (url.is_target_byte b) || is_target_byte b) (λ _. true) 128 ≡ true
bytes_agree = refl

target_byte : (b : ℕ) → url.is_target_byte b ≡ true → is_target_byte b ≡ true
target_byte b test =
    let small : b < 128 = grind (arith, nat_tests) in
    implied (url.is_target_byte b) (is_target_byte b) (agree_below_at (λ b. not (url.is_target_byte b) || is_target_byte b) (λ _. true) 128 b bytes_agree small) test

target_bytes : (target : List ℕ) → list_all url.is_target_byte target ≡ true → list_all is_target_byte target ≡ true
target_bytes [] all = refl
target_bytes (b ∷ target) all =
    let both = and_split (url.is_target_byte b) (list_all url.is_target_byte target) all in
    and_join (is_target_byte b) _ (target_byte b both.0) (target_bytes target both.1)

-- ---- the path begins with `/`
-- what stands behind a host is nothing, or begins with `/` or `?`
abbrev BeginsTarget : List ℕ → Type 0
BeginsTarget [] = ⊤
BeginsTarget (b ∷ bytes) = (b == 47 || b == 63) ≡ true

one_more : (n : ℕ) → suc n ≡ 1 + n
one_more n = omega arith

target_begins : (rest : List ℕ) → BeginsTarget (drop (host_len rest) rest)
target_begins [] = tt
target_begins (b ∷ rest) = by (b == 47 || b == 63) refl (target_begins rest)
  where
    by : (t : Bool) → (b == 47 || b == 63) ≡ t → BeginsTarget (drop (host_len rest) rest) → BeginsTarget (drop (host_len (b ∷ rest)) (b ∷ rest))
    by true test later = subst (λ (t : Bool). BeginsTarget (drop (cond (not t) (1 + host_len rest) 0) (b ∷ rest))) (sym test) test
    by false test later =
        subst (λ (t : Bool). BeginsTarget (drop (cond (not t) (1 + host_len rest) 0) (b ∷ rest))) (sym test)
        (subst (λ (n : ℕ). BeginsTarget (drop n (b ∷ rest))) (one_more (host_len rest)) later)

some : (n : ℕ) → nat_le 1 (1 + n) ≡ true
some n = grind (arith, nat_tests)

slash : (b : ℕ) → (b == 47 || b == 63) ≡ true → (b == 63) ≡ false → (b == 47) ≡ true
slash b begins other = ⊎_elim (λ is. is) (λ is. absurd (cc)) (or_split (b == 47) (b == 63) begins)

path_fits : (target : List ℕ) → BeginsTarget target → list_all is_target_byte target ≡ true → is_path (path_of target) ≡ true
path_fits [] begins all = refl
path_fits (b ∷ bytes) begins all =
    let n = path_len bytes in
    let parts = cut_bytes is_target_byte 63 (b ∷ bytes) all in
    ⊎_elim
    (λ same. ap is_path (ap (λ (t : Bool). cond (nat_le 1 (cond (not t) (1 + n) 0)) (take (cond (not t) (1 + n) 0) (b ∷ bytes)) (47 ∷ [])) same))
    (λ other.
    let cut = first_cut 63 b bytes other in
    let front : list_all is_target_byte (b ∷ before_first (λ k. k == 63) bytes) ≡ true = ap (list_all is_target_byte) (sym cut.0) ∙ parts.front in
    let whole : is_target (b ∷ before_first (λ k. k == 63) bytes) ≡ true
    = and_join (b == 47) _ (slash b begins other) (and_split (is_target_byte b) _ front).1 in
    let long : nat_le 1 (path_len (b ∷ bytes)) ≡ true = ap (λ (t : Bool). nat_le 1 (cond (not t) (1 + n) 0)) other ∙ some n in
    ap is_path (cond-true (nat_le 1 (path_len (b ∷ bytes))) (take (path_len (b ∷ bytes)) (b ∷ bytes)) (47 ∷ []) long)
    ∙ and_join _ _ (ap is_target cut.0 ∙ whole) (ap not parts.none))
    (cases_Bool (b == 63))

-- ---- the parts
pub record IsFit (parts : UrlParts) : Type 0 where
  pub path : is_path parts.path ≡ true
  pub query : list_all is_target_byte parts.query ≡ true
  pub text : List ℕ
  pub host : IsHostOf text parts.name parts.port

pub fits : (text : List ℕ) (parts : UrlParts) → IsUrl text parts → IsFit parts
fits text parts reading =
    let tests = and_split ((is_https text || is_http text) && is_host (host_text text)) (list_all url.is_target_byte (target_text text)) reading.0 in
    let all = target_bytes (target_text text) tests.1 in
    record {
      path = ap (λ (p : UrlParts). is_path p.path) (sym reading.2) ∙ path_fits (target_text text) (target_begins (url.after_scheme text)) all;
      query = ap (λ (p : UrlParts). list_all is_target_byte p.query) (sym reading.2) ∙ (cut_bytes is_target_byte 63 (target_text text) all).back;
      text = host_text text;
      host = ((and_split (is_https text || is_http text) (is_host (host_text text)) tests.0).1, λ i. ((reading.2 i).name, (reading.2 i).port));
    }
