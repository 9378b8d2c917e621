-- What this end signs has no fault at the other.
use Rattle.std.proofs.Common.{◌≡◌, ℕ, ◌≤◌, Bool, true, false, not, ◌||◌, ◌&&◌, ◌==◌, cond, nat_lt, List, [], ◌∷◌, ◌++◌, length, refl, sym, ap, ◌∙◌, subst, append_assoc, append-nil, arith, Some, None}
use Rattle.std.specs.Prelude.{codes, decimal, filter, bytes_eq}
use Rattle.std.specs.List.{list_any}
use Rattle.std.proofs.lemmas.Bool.Decides.{nat_tests}
use Rattle.std.proofs.lemmas.List.Elements.{filter-append}
use Rattle.std.proofs.lemmas.Slice.Eq.{bytes_eq-Decides}
use Rattle.sha1.specs.Sha1.{sha1}
use Rattle.lti_outside.specs.declared.pairs.Pair.{Pair}
use Rattle.oauth_text.specs.Form.{IsForm, pairs_of}
use Rattle.oauth_text.specs.Url.{UrlParts}
use Rattle.oauth_text.specs.declared.url.Scheme.{Scheme}
use Rattle.oauth_sign.specs.BaseUri.{base_uri_of}
use Rattle.oauth_sign.specs.Body.{body_hash}
use Rattle.oauth_sign.specs.Signature.{IsSignature}
use Rattle.oauth_header.specs.Header.{IsHeader, header_pairs}
use Rattle.http_wire.specs.Message.{RequestParts}
use Rattle.oauth_request.specs.Protocol.{signature_name, body_hash_name, values, is_bad_timestamp, is_empty, is_long}
use Rattle.oauth_request.specs.Secret.{secret_in}
use Rattle.http_wire.specs.Conditions.{first_fault}
use Rattle.oauth_request.specs.Conditions.{duplicate_conditions, missing_conditions, text_conditions}
use Rattle.oauth_request.specs.Checked.{Terms, form_type, is_form, all_pairs, parameters, conditions_of, IsReadable, IsSignedBy}
use Rattle.oauth_request.specs.Signing.{CanSign, HoldsNone, protocol_pairs, callback_pair, pair, form_pairs, body_pairs, IsSignatureOf, IsSignedForm, IsSignedBody, AreTermsOf, PostsForm, IsBelieved, SignedIsBelieved}
use Rattle.oauth_request.specs.declared.fields.Field.TheVariants as field
use Rattle.oauth_request.proofs.ConditionLemmas.{is_left, is_fine}
use Rattle.oauth_request.proofs.SigningLemmas.{AreSigned, form_tail, body_tail, form_signed, body_signed, form_kept, body_kept, behind, none_dropped, timestamp_fine}

-- the hash that stands, by whether the body is a form
abbrev hash_for : Bool → List ℕ → List (List ℕ)
hash_for true body = []
hash_for false body = body_hash body ∷ []

doubles_none : (pairs : List Pair) (key nonce text : List ℕ) (moment : ℕ) (hash : List (List ℕ)) → AreSigned pairs key nonce text moment hash
    → nat_lt 1 (length hash) ≡ false → first_fault (duplicate_conditions pairs) ≡ None
unfolding duplicate_conditions
doubles_none pairs key nonce text moment hash are few =
    rw (are.key_is, are.method, are.timestamp, are.nonce_is, are.signature, are.version, are.token, are.hash_is, few) refl

few_hashes : (form : Bool) (body : List ℕ) → nat_lt 1 (length (hash_for form body)) ≡ false
few_hashes true body = refl
few_hashes false body = refl

gaps_none : (form : Bool) (body : List ℕ) (pairs : List Pair) (key nonce text : List ℕ) (moment : ℕ) → AreSigned pairs key nonce text moment (hash_for form body)
    → first_fault (missing_conditions form pairs) ≡ None
unfolding missing_conditions
gaps_none true body pairs key nonce text moment are = rw (are.key_is, are.method, are.timestamp, are.nonce_is, are.signature) refl
gaps_none false body pairs key nonce text moment are = rw (are.key_is, are.method, are.timestamp, are.nonce_is, are.signature, are.hash_is) refl

not_empty : (n : ℕ) → 1 ≤ n → (n == 0) ≡ false
not_empty n some = grind (arith, nat_tests)

not_long : (field_limit n : ℕ) → n ≤ field_limit → nat_lt field_limit n ≡ false
not_long field_limit n few = grind (arith, nat_tests)

texts_none : (field_limit : ℕ) (pairs : List Pair) (key nonce text : List ℕ) (moment : ℕ) (hash : List (List ℕ)) → AreSigned pairs key nonce text moment hash
    → CanSign key moment nonce → length key ≤ field_limit → length nonce ≤ field_limit → first_fault (text_conditions field_limit pairs) ≡ None
unfolding text_conditions
texts_none field_limit pairs key nonce text moment hash are can short few =
    let number : is_bad_timestamp (decimal moment) ≡ false = (timestamp_fine moment can.moment_some can.moment_small).form in
    let some : is_empty nonce ≡ false = not_empty (length nonce) can.nonce_some in
    let key_fits : is_long field_limit key ≡ false = not_long field_limit (length key) short in
    let nonce_fits : is_long field_limit nonce ≡ false = not_long field_limit (length nonce) few in
    rw (are.method, are.version, are.token, are.timestamp, are.nonce_is, are.key_is, number, some, key_fits, nonce_fits) refl

same_hash : (form : Bool) (body : List ℕ) (pairs : List Pair) → values body_hash_name pairs ≡ hash_for form body
    → not form && list_any (λ hash. not (bytes_eq hash (body_hash body))) (values body_hash_name pairs) ≡ false
same_hash true body pairs stands = refl
same_hash false body pairs stands = rw (stands, (bytes_eq-Decides (body_hash body) (body_hash body)).1 refl) refl

fine : (keys : List Pair) (field_limit : ℕ) (form : Bool) (body : List ℕ) (pairs : List Pair) (key nonce text secret : List ℕ) (moment : ℕ)
    → AreSigned pairs key nonce text moment (hash_for form body) → CanSign key moment nonce → length key ≤ field_limit → length nonce ≤ field_limit → secret_in keys key ≡ Some secret
    → first_fault (conditions_of keys field_limit form body pairs) ≡ None
fine keys field_limit form body pairs key nonce text secret moment are can short few known =
    is_left keys field_limit form body pairs (doubles_none pairs key nonce text moment (hash_for form body) are (few_hashes form body)) (gaps_none form body pairs key nonce text moment are)
    (texts_none field_limit pairs key nonce text moment (hash_for form body) are can short few)
    ∙ is_fine keys form body (sha1 body) pairs key secret are.key_is known (λ _. refl) (same_hash form body pairs are.hash_is)

believed : (terms : Terms) (q : RequestParts) (key nonce text secret : List ℕ) (moment : ℕ) → IsReadable q
    → AreSigned (all_pairs q) key nonce text moment (hash_for (is_form q) q.body) → CanSign key moment nonce → length key ≤ terms.field → length nonce ≤ terms.field
    → secret_in terms.keys key ≡ Some secret → IsSignedBy terms q secret text → IsBelieved terms key moment nonce q
believed terms q key nonce text secret moment readable are can short few known signed = record {
  well_signed = record {
    readable = readable;
    faultless = fine terms.keys terms.field (is_form q) q.body (all_pairs q) key nonce text secret moment are can short few known;
    signed = record {
      key = key;
      key_is = are.key_is;
      secret = secret;
      secret_is = known;
      text = text;
      text_is = are.signature;
      signature = signed;
    };
  };
  says = record {
    key = are.key_is;
    timestamp_text = decimal moment;
    timestamp = are.timestamp;
    number = timestamp_fine moment can.moment_some can.moment_small;
    nonce = are.nonce_is;
    pairs = refl;
  };
}

-- two fronts that hold none
append_by : (here rest whole : Bool) → (rest ≡ false → whole ≡ false) → here || rest ≡ false → here || whole ≡ false
append_by true rest whole more is = is
append_by false rest whole more is = more is

any_append : (test : Pair → Bool) (ps qs : List Pair) → list_any test ps ≡ false → list_any test qs ≡ false → list_any test (ps ++ qs) ≡ false
any_append test [] qs one other = other
any_append test (p ∷ ps) qs one other =
    append_by (test p) (list_any test ps) (list_any test (ps ++ qs)) (λ rest. any_append test ps qs rest other) one

HoldsNone-append : (ps qs : List Pair) → HoldsNone ps → HoldsNone qs → HoldsNone (ps ++ qs)
HoldsNone-append ps qs one other = λ f. any_append _ ps qs (one f) (other f)

-- the signature under the URL's scheme is the one under the scheme of the terms
signed_as : (terms : Terms) (url : UrlParts) (pairs signed : List Pair) (secret text : List ℕ) → terms.scheme ≡ url.scheme → pairs_of url.query ++ pairs ≡ signed
    → IsSignatureOf url pairs secret text → IsSignature (codes "POST") (base_uri_of terms.scheme url.name url.port url.path) signed secret [] text
signed_as terms url pairs signed secret text scheme same is =
    subst (λ (s : Scheme). IsSignature (codes "POST") (base_uri_of s url.name url.port url.path) signed secret [] text) (sym scheme)
    (subst (λ (ps : List Pair). IsSignature (codes "POST") (base_uri_of url.scheme url.name url.port url.path) ps secret [] text) same is)

-- what is posted to the URL
abbrev request_with : UrlParts → List ℕ → List ℕ → List ℕ → Bool → Bool → RequestParts
request_with url media authorization body encoded close = record {
  method = codes "POST";
  path = url.path;
  query = url.query;
  host_name = url.name;
  host_port = url.port;
  media = media;
  encoded = encoded;
  authorization = authorization;
  body = body;
  close = close;
}

-- a form that is posted
abbrev post_of : UrlParts → List ℕ → Bool → Bool → RequestParts
post_of url body encoded close = request_with url form_type [] body encoded close

kept_by : (front tail rest : List Pair) → HoldsNone front → filter (λ (p : Pair). not (bytes_eq p.name signature_name)) tail ≡ rest
    → filter (λ (p : Pair). not (bytes_eq p.name signature_name)) (front ++ tail) ≡ front ++ rest
kept_by front tail rest none kept =
    filter-append (λ (p : Pair). not (bytes_eq p.name signature_name)) front tail
    ∙ (λ i. none_dropped signature_name front (none field.Signature) i ++ kept i)

form_believed : (terms : Terms) (url : UrlParts) (fields : List Pair) (key secret nonce text body : List ℕ) (moment : ℕ) (encoded close : Bool)
    → CanSign key moment nonce → HoldsNone fields → AreTermsOf terms url key secret nonce
    → IsSignatureOf url (form_pairs fields key moment nonce) secret text → IsForm body
    → pairs_of body ≡ form_pairs fields key moment nonce ++ pair signature_name text ∷ [] → IsBelieved terms key moment nonce (post_of url body encoded close)
form_believed terms url fields key secret nonce text body moment encoded close can free are signature form pairs =
    let q = post_of url body encoded close in
    let front : List Pair = pairs_of url.query ++ fields in
    let none = HoldsNone-append (pairs_of url.query) fields are.query_free free in
    let protocol : List Pair = protocol_pairs key moment nonce in
    let sent : pairs_of body ≡ fields ++ form_tail key moment nonce text
    = pairs ∙ append_assoc (fields ++ protocol) (callback_pair ∷ []) (pair signature_name text ∷ []) ∙ append_assoc fields protocol (callback_pair ∷ pair signature_name text ∷ []) in
    let all : all_pairs q ≡ front ++ form_tail key moment nonce text
    = (λ i. append-nil (pairs_of url.query) i ++ sent i) ∙ sym (append_assoc (pairs_of url.query) fields (form_tail key moment nonce text)) in
    let signed : parameters q ≡ pairs_of url.query ++ form_pairs fields key moment nonce
    = ap (λ (ps : List Pair). filter (λ (p : Pair). not (bytes_eq p.name signature_name)) ps) all
    ∙ kept_by front (form_tail key moment nonce text) (protocol ++ callback_pair ∷ []) none (form_kept key nonce text moment)
    ∙ append_assoc (pairs_of url.query) fields (protocol ++ callback_pair ∷ [])
    ∙ ap (λ (ps : List Pair). pairs_of url.query ++ ps) (sym (append_assoc fields protocol (callback_pair ∷ []))) in
    believed terms q key nonce text secret moment
    (record { header = tt; query = are.query; body = λ _. form })
    (subst (λ (ps : List Pair). AreSigned ps key nonce text moment []) (sym all) (behind front (form_tail key moment nonce text) key nonce text moment [] none (form_signed key nonce text moment)))
    can are.key_short are.nonce_short are.known
    (signed_as terms url (form_pairs fields key moment nonce) (parameters q) secret text are.scheme (sym signed) signature)

form_law : (terms : Terms) (url : UrlParts) (fields signed : List Pair) (key secret nonce : List ℕ) (moment : ℕ) (q : RequestParts)
    → CanSign key moment nonce → HoldsNone fields → AreTermsOf terms url key secret nonce
    → IsSignedForm url fields key secret moment nonce signed → PostsForm url signed q → IsBelieved terms key moment nonce q
form_law terms url fields signed key secret nonce moment q can free are made posts =
    let same : post_of url q.body q.encoded q.close ≡ q = λ i. record {
      method = sym posts.method i;
      path = sym posts.path i;
      query = sym posts.query i;
      host_name = sym posts.host_name i;
      host_port = sym posts.host_port i;
      media = sym posts.media i;
      encoded = q.encoded;
      authorization = sym posts.authorization i;
      body = q.body;
      close = q.close;
    } in
    subst (λ (x : RequestParts). IsBelieved terms key moment nonce x) same
    (form_believed terms url fields key secret nonce made.text q.body moment q.encoded q.close can free are made.signature posts.form (posts.pairs ∙ made.is))

not_both : (b : Bool) → b ≡ false → b ≡ true → ⊥
not_both b false_is true_is = let e = sym false_is ∙ true_is in cc

-- a request that isn't a form has no pairs in its body
without_body : (form : Bool) (ps qs : List Pair) → form ≡ false → ps ++ cond form qs [] ≡ ps
without_body true ps qs is = absurd (cc)
without_body false ps qs is = append-nil ps

body_believed : (terms : Terms) (url : UrlParts) (media body key secret nonce text header : List ℕ) (moment : ℕ) (q : RequestParts)
    → CanSign key moment nonce → bytes_eq media form_type ≡ false → AreTermsOf terms url key secret nonce
    → IsSignatureOf url (body_pairs key moment nonce body) secret text → IsHeader header
    → header_pairs header ≡ body_pairs key moment nonce body ++ pair signature_name text ∷ []
    → q ≡ request_with url media header body false true
    → IsBelieved terms key moment nonce q
body_believed terms url media body key secret nonce text header moment q can other are signature readable header_is q_is =
    let sent : RequestParts = request_with url media header body false true in
    let front : List Pair = pairs_of url.query in
    let protocol : List Pair = protocol_pairs key moment nonce in
    let hash_pair : Pair = pair body_hash_name (body_hash body) in
    let all : all_pairs sent ≡ front ++ body_tail key moment nonce (body_hash body) text
    = append_assoc front (header_pairs header) (cond (bytes_eq media form_type) (pairs_of body) [])
    ∙ ap (λ (ps : List Pair). front ++ ps)
    (without_body (bytes_eq media form_type) (header_pairs header) (pairs_of body) other ∙ header_is ∙ append_assoc protocol (hash_pair ∷ []) (pair signature_name text ∷ [])) in
    let signed : parameters sent ≡ front ++ body_pairs key moment nonce body
    = ap (λ (ps : List Pair). filter (λ (p : Pair). not (bytes_eq p.name signature_name)) ps) all
    ∙ kept_by front (body_tail key moment nonce (body_hash body) text) (protocol ++ hash_pair ∷ []) are.query_free (body_kept key nonce (body_hash body) text moment) in
    let tail : AreSigned (front ++ body_tail key moment nonce (body_hash body) text) key nonce text moment (body_hash body ∷ [])
    = behind front (body_tail key moment nonce (body_hash body) text) key nonce text moment (body_hash body ∷ []) are.query_free (body_signed key nonce (body_hash body) text moment) in
    subst (λ (x : RequestParts). IsBelieved terms key moment nonce x) (sym q_is)
    (believed terms sent key nonce text secret moment
    (record { header = readable; query = are.query; body = λ is. absurd (not_both (bytes_eq media form_type) other is) })
    (subst (λ (hs : List (List ℕ)). AreSigned (all_pairs sent) key nonce text moment hs) (ap (λ (f : Bool). hash_for f body) (sym other))
    (subst (λ (ps : List Pair). AreSigned ps key nonce text moment (body_hash body ∷ [])) (sym all) tail))
    can are.key_short are.nonce_short are.known
    (signed_as terms url (body_pairs key moment nonce body) (parameters sent) secret text are.scheme (sym signed) signature))

body_law : (terms : Terms) (url : UrlParts) (media body key secret nonce : List ℕ) (moment : ℕ) (q : RequestParts)
    → CanSign key moment nonce → bytes_eq media form_type ≡ false → AreTermsOf terms url key secret nonce
    → IsSignedBody url media body key secret moment nonce q → IsBelieved terms key moment nonce q
body_law terms url media body key secret nonce moment q can other are made =
    body_believed terms url media body key secret nonce made.text _ moment q can other are made.signature made.header made.header_is made.is

pub signed_is_believed : SignedIsBelieved
signed_is_believed = (form_law, body_law)
