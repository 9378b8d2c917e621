-- Only a sound request's text is a spelling of it.
use Rattle.std.proofs.Common.{◌≡◌, ℕ, ◌<◌, ◌^◌, ◌==◌, ◌&&◌, ◌||◌, not, Bool, true, false, List, [], ◌∷◌, ◌++◌, length, codes, refl, sym, ap, ◌∙◌, subst, arith, append-nil, length-append, None}
use Rattle.std.specs.Prelude.{decimal, nat_lt}
use Rattle.std.specs.List.{list_all, list_any, before_first, after_first}
use Rattle.std.proofs.lemmas.Bool.Decides.{nat_tests}
use Rattle.std.proofs.lemmas.List.Sums.{list_all-from_AllPass}
use Rattle.httparse.specs.Grammar.{is_token, is_token_byte, IsToken, print_request, ReadsRequest}
use Rattle.httparse.proofs.GrammarLemmas.{request_unique}
use Rattle.oauth_text.specs.Host.{is_host}
use Rattle.lti_outside.specs.declared.limits.Limits.{Limits}
use Rattle.lti_outside.proofs.BoolLemmas.{and_split}
use Rattle.http_wire.specs.declared.fault.WireFault.TheVariants.{BadHead, BadTarget, BadHost, Chunked, BadLength}
use Rattle.http_wire.specs.Conditions.{first_fault}
use Rattle.http_wire.specs.Headers.{values_of, first_in, is_none, is_text_byte, has_bad_header, is_encoding, is_one_host, is_length, is_bad_length, length_in}
use Rattle.http_wire.specs.Head.{HeadParts, head_parts_of, is_target, is_target_byte, part_conditions}
use Rattle.http_wire.specs.Message.{RequestParts}
use Rattle.http_wire.specs.Spelling.{Spelling}
use Rattle.http_wire.specs.Written.{host_text, request_head, request_text, is_path, is_value, is_media, IsSoundRequest}
use Rattle.http_wire.specs.Back.{OnlySoundIsRead}
use Rattle.http_wire.proofs.NumberLemmas.{small_digits}
use Rattle.http_wire.proofs.ConditionLemmas.{by_holds}
use Rattle.http_wire.proofs.HeaderLemmas.{first_text}
use Rattle.http_wire.proofs.UniqueLemmas.{same_fronts}
use Rattle.http_wire.proofs.BackHost.{and_join, is_byte}
use Rattle.http_wire.proofs.BackHead.{known, head_of, written_head_parts, is_request_head, head_text, head_parts_read, not_encoded}
use Rattle.http_wire.proofs.OnlyTexts.{IsClean, cut_bytes, first_cut, first_value_clean, trimmed_test, media_is_media}

positive_test : (n : ℕ) → 0 < n → nat_lt 0 n ≡ true
positive_test n some = grind (arith, nat_tests)

token_test : (bytes : List ℕ) → IsToken bytes → is_token bytes ≡ true
token_test bytes token = and_join (nat_lt 0 (length bytes)) _ (positive_test (length bytes) token.0) (list_all-from_AllPass is_token_byte bytes token.1)

not_not : (t : Bool) → not t ≡ false → t ≡ true
not_not true test = refl
not_not false test = absurd (cc)

-- the path and the query of a target
target_cut : (target : List ℕ) → is_target target ≡ true
    → (is_path (before_first (λ b. b == 63) target) ≡ true) × (list_all is_target_byte (after_first (λ b. b == 63) target) ≡ true)
target_cut [] test = absurd (cc)
target_cut (b ∷ bytes) test =
    let both = and_split (b == 47) (list_all is_target_byte bytes) test in
    let other : (b == 63) ≡ false = ap (λ k. k == 63) (is_byte b 47 both.0) in
    let cut = first_cut 63 b bytes other in
    let rest = cut_bytes is_target_byte 63 bytes both.1 in (
      ap is_path cut.0
          ∙ and_join (b == 47 && list_all is_target_byte (before_first (λ k. k == 63) bytes)) _
          (and_join (b == 47) _ both.0 rest.front)
          (ap not (ap (λ t. t || list_any (λ k. k == 63) (before_first (λ k. k == 63) bytes)) other ∙ rest.none)),
      ap (list_all is_target_byte) cut.1 ∙ rest.back,
    )

one_host : (values : List (List ℕ)) → is_one_host values ≡ true → is_host (first_in values) ≡ true
one_host [] test = absurd (cc)
one_host (value ∷ []) test = test
one_host (value ∷ other ∷ values) test = absurd (cc)

small_length : (values : List (List ℕ)) → is_bad_length values ≡ false → length_in values < 10 ^ 19
small_length [] test = omega arith
small_length (value ∷ []) test = small_digits value (not_not (is_length value) test)
small_length (value ∷ other ∷ values) test = absurd (cc)

-- what the conditions on the parts of a head leave
record Passed (head_parts : HeadParts) : Type 0 where
  headers : has_bad_header head_parts.headers ≡ false
  target : is_target head_parts.target ≡ true
  host : is_host (first_in (values_of (codes "Host") head_parts.headers)) ≡ true
  length_is : is_bad_length (values_of (codes "Content-Length") head_parts.headers) ≡ false

parts_passed : (limits : Limits) (head_parts : HeadParts) → first_fault (part_conditions limits head_parts) ≡ None → Passed head_parts
parts_passed limits head_parts fine =
    let headers = by_holds (has_bad_header head_parts.headers) BadHead _ fine in
    let target = by_holds (not (is_target head_parts.target)) BadTarget _ headers.1 in
    let host = by_holds (not (is_one_host (values_of (codes "Host") head_parts.headers))) BadHost _ target.1 in
    let chunked = by_holds (not (is_none (values_of (codes "Transfer-Encoding") head_parts.headers))) Chunked _ host.1 in
    let size = by_holds (is_bad_length (values_of (codes "Content-Length") head_parts.headers)) BadLength _ chunked.1 in
    record {
      headers = headers.0;
      target = not_not (is_target head_parts.target) target.0;
      host = one_host (values_of (codes "Host") head_parts.headers) (not_not (is_one_host (values_of (codes "Host") head_parts.headers)) host.0);
      length_is = size.0;
    }

-- a sound request but for the coding of its body
but_for_coding : (limits : Limits) (parts : RequestParts) → Spelling limits (request_text parts) parts → IsSoundRequest (record parts { encoded = false })
but_for_coding limits parts spells =
    let head_parts = spells.head_parts in
    let passed = parts_passed limits head_parts spells.reads.parts in
    let is = spells.parts_are in
    let parsed = spells.reads.parsed in
    let clean_of : (name : List ℕ) → IsClean (first_in (values_of name head_parts.headers))
    = λ name. subst (λ (p : HeadParts). IsClean (first_in (values_of name p.headers))) (sym spells.reads.is) (first_value_clean name parsed.fields) in
    let token : IsToken parts.method = subst IsToken (sym (ap (λ (p : RequestParts). p.method) is ∙ ap (λ (p : HeadParts). p.method) spells.reads.is)) spells.reads.reads.0.method in
    let cut = target_cut head_parts.target passed.target in
    let host_value = first_in (values_of (codes "Host") head_parts.headers) in
    let media_value = first_in (values_of (codes "Content-Type") head_parts.headers) in
    let authorization_value = first_in (values_of (codes "Authorization") head_parts.headers) in
    let texts = first_text head_parts.headers passed.headers in
    record {
      method = token_test parts.method token;
      path = ap is_path (ap (λ (p : RequestParts). p.path) is) ∙ cut.0;
      query = ap (list_all is_target_byte) (ap (λ (p : RequestParts). p.query) is) ∙ cut.1;
      host = ∣ (host_value, (passed.host, λ i. (ap (λ (p : RequestParts). p.host_name) (sym is) i, ap (λ (p : RequestParts). p.host_port) (sym is) i))) ∣₁;
      media = ap is_media (ap (λ (p : RequestParts). p.media) is) ∙ media_is_media media_value texts.0 (clean_of (codes "Content-Type"));
      encoded = refl;
      authorization = ap is_value (ap (λ (p : RequestParts). p.authorization) is)
          ∙ and_join (list_all is_text_byte authorization_value) _ texts.1 (trimmed_test authorization_value (clean_of (codes "Authorization")));
      body = subst (λ (n : ℕ). n < 10 ^ 19) (sym spells.body) (small_length (values_of (codes "Content-Length") head_parts.headers) passed.length_is);
    }

-- fronts of the same bytes with the same rest are the same
same_before : (xs ys rest : List ℕ) → xs ++ rest ≡ ys ++ rest → xs ≡ ys
same_before xs ys rest is =
    let counted = ap length is in
    (same_fronts xs ys rest rest (omega (arith, counted, length-append xs rest, length-append ys rest)) is).0

-- the head that was read is the one that was written, and it names no coding
not_coded : (limits : Limits) (parts : RequestParts) → Spelling limits (request_text parts) parts → parts.encoded ≡ false
not_coded limits parts spells =
    let uncoded : RequestParts = record parts { encoded = false } in
    let of = known uncoded (but_for_coding limits parts spells) in
    let head : request_head parts ≡ spells.head = same_before (request_head parts) spells.head parts.body spells.is in
    let written : ReadsRequest (request_head parts) (head_of uncoded) [] = (is_request_head uncoded of, sym (append-nil (print_request (head_of uncoded)) ∙ head_text uncoded)) in
    let read : ReadsRequest (request_head parts) spells.reads.parsed [] = subst (λ (h : List ℕ). ReadsRequest h spells.reads.parsed []) (sym head) spells.reads.reads in
    let same = (request_unique (request_head parts) spells.reads.parsed (head_of uncoded) [] [] read written).0 in
    let head_parts : spells.head_parts ≡ written_head_parts uncoded = spells.reads.is ∙ ap head_parts_of same ∙ sym (head_parts_read uncoded of) in
    ap (λ (p : RequestParts). p.encoded) spells.parts_are ∙ ap (λ (p : HeadParts). list_any is_encoding p.headers) head_parts
    ∙ not_encoded (host_text parts.host_name parts.host_port) parts.media parts.authorization (decimal (length parts.body))

pub only_sound_is_read : OnlySoundIsRead
only_sound_is_read limits parts spells =
    let sound = but_for_coding limits parts spells in
    record {
      method = sound.method;
      path = sound.path;
      query = sound.query;
      host = sound.host;
      media = sound.media;
      encoded = not_coded limits parts spells;
      authorization = sound.authorization;
      body = sound.body;
    }
