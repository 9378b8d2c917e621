-- What the tool's end reads in a launch form that is posted.
use Rattle.std.proofs.Common.{◌≡◌, ℕ, ◌≤◌, ◌==◌, nat_lt, Bool, false, List, [], ◌∷◌, ◌++◌, length, append-nil, refl, sym, ap, ◌∙◌, None, arith}
use Rattle.std.specs.List.{find}
use Rattle.std.proofs.lemmas.Bool.Decides.{nat_tests}
use Rattle.lti_outside.specs.declared.pairs.Pair.{Pair}
use Rattle.oauth_text.specs.Form.{pairs_of}
use Rattle.oauth_text.specs.Url.{UrlParts}
use Rattle.http_wire.specs.Message.{RequestParts}
use Rattle.oauth_request.specs.Checked as checked
use Rattle.oauth_request.specs.Protocol.{key_name, method_name, timestamp_name, nonce_name, signature_name, version_name}
use Rattle.oauth_request.specs.Signing.{protocol_pairs, callback_pair, pair, form_pairs, IsSignedForm, PostsForm}
use Rattle.oauth_request.proofs.BelievedLemmas.{signed_is_believed}
use Rattle.lti_launch.specs.Fields.{all_fields}
use Rattle.lti_launch.specs.Parameters.{values, value_in, only, is_oauth}
use Rattle.lti_launch.specs.Faults.{launch_type, launch_version, fault_of, is_wrong, is_repeated}
use Rattle.lti_launch.specs.Launch.{launch_of}
use Rattle.lti_launch.specs.declared.fields.LaunchField.{LaunchField}
use Rattle.lti_launch.specs.declared.fields.LaunchField.TheVariants.{LtiMessageType, LtiVersion, ResourceLinkId, UserId, LisResultSourcedid, LisOutcomeServiceUrl}
use Rattle.lti_launch.proofs.ValueLemmas.{values-append}
use Rattle.lti_launch.proofs.LaunchLemmas.{faultless_join, value_stands}
use Rattle.lti_machine.specs.declared.call.Action.TheVariants as action
use Rattle.lti_asks.specs.Launches.{text_in, text_of, IsLaunchCall}
use Rattle.lti_consumer.specs.Launches.{launch_fields, noted_launch}
use Rattle.lti_consumer.specs.Laws.{HoldsNoField, FormSaysLaunch}
use Rattle.lti_consumer.specs.declared.terms.Terms.{Terms}
use Rattle.lti_consumer.proofs.FieldLemmas.{holds_none, alone, standing, fields_stand, oauth_stand, others_stand, unsigned_stand}

-- among these pairs stands what the terms give, and nothing else
abbrev Stand : Terms → List Pair → Type 0
Stand terms pairs = (field : LaunchField) → values field pairs ≡ standing terms field

find_none : (t : LaunchField → Bool) (fields : List LaunchField) → ((field : LaunchField) → t field ≡ false) → find t fields ≡ None
find_none t [] none = refl
find_none t (field ∷ fields) none = rw (none field) (find_none t fields none)

few_alone : (text : List ℕ) → nat_lt 1 (length (alone text)) ≡ false
few_alone [] = refl
few_alone (c ∷ text) = refl

few : (terms : Terms) (field : LaunchField) → nat_lt 1 (length (standing terms field)) ≡ false
few terms LtiMessageType = refl
few terms LtiVersion = refl
few terms ResourceLinkId = refl
few terms UserId = few_alone terms.user
few terms LisResultSourcedid = few_alone terms.sourced_id
few terms LisOutcomeServiceUrl = few_alone terms.service
few terms other = refl

module _ (terms : Terms) (pairs : List Pair) (stand : Stand terms pairs) where
  kind_right : is_wrong LtiMessageType pairs ≡ false
  unfolding launch_type
  kind_right = rw (stand LtiMessageType) refl

  version_right : is_wrong LtiVersion pairs ≡ false
  unfolding launch_version
  version_right = rw (stand LtiVersion) refl

  link_right : 1 ≤ length terms.link → is_wrong ResourceLinkId pairs ≡ false
  link_right some =
      let test : (length terms.link == 0) ≡ false = grind (arith, nat_tests, some) in
      rw (stand ResourceLinkId, test) refl

  single : (field : LaunchField) → is_repeated pairs field ≡ false
  single field = rw (stand field) (few terms field)

  faultless : 1 ≤ length terms.link → fault_of pairs ≡ None
  faultless some = faultless_join pairs (record {
    kind = kind_right;
    version = version_right;
    link = link_right some;
    single = find_none (is_repeated pairs) all_fields single;
  })

  text_is : (field : LaunchField) → text_of (launch_of pairs) field ≡ text_in (only (standing terms field))
  unfolding value_in
  text_is field = ap text_in (value_stands pairs field ∙ ap only (stand field))

  text_alone : (text : List ℕ) → text_in (only (alone text)) ≡ text
  text_alone [] = refl
  text_alone (c ∷ text) = refl

  call : 1 ≤ length terms.link → IsLaunchCall pairs (noted_launch terms)
  call some = record {
    faultless = faultless some;
    action_is = λ i. action.Launch (sym (text_is ResourceLinkId) i) (sym (text_is UserId ∙ text_alone terms.user) i)
        (sym (text_is LisResultSourcedid ∙ text_alone terms.sourced_id) i) (sym (text_is LisOutcomeServiceUrl ∙ text_alone terms.service) i);
  }

protocol_stands : (field : LaunchField) (key nonce : List ℕ) (moment : ℕ) → values field (protocol_pairs key moment nonce) ≡ []
unfolding is_oauth protocol_pairs key_name method_name timestamp_name nonce_name version_name
protocol_stands field key nonce moment = oauth_stand field (protocol_pairs key moment nonce) refl

callback_stands : (field : LaunchField) → values field (callback_pair ∷ []) ≡ []
unfolding is_oauth
callback_stands field = oauth_stand field (callback_pair ∷ []) refl

signature_stands : (field : LaunchField) (text : List ℕ) → values field (pair signature_name text ∷ []) ≡ []
unfolding is_oauth signature_name
signature_stands field text = oauth_stand field (pair signature_name text ∷ []) refl

-- behind what stands comes nothing more
more_stand : (field : LaunchField) (ps qs : List Pair) → values field qs ≡ [] → values field (ps ++ qs) ≡ values field ps
more_stand field ps qs none = values-append field ps qs ∙ ap (λ (vs : List (List ℕ)). values field ps ++ vs) none ∙ append-nil (values field ps)

form_stands : (terms : Terms) (key nonce text : List ℕ) (moment : ℕ) → Stand terms (form_pairs (launch_fields terms) key moment nonce ++ pair signature_name text ∷ [])
form_stands terms key nonce text moment field =
    let protocol : List Pair = protocol_pairs key moment nonce in
    more_stand field (form_pairs (launch_fields terms) key moment nonce) (pair signature_name text ∷ []) (signature_stands field text)
    ∙ more_stand field (launch_fields terms ++ protocol) (callback_pair ∷ []) (callback_stands field)
    ∙ more_stand field (launch_fields terms) protocol (protocol_stands field key nonce moment)
    ∙ fields_stand terms field

-- the form as it stands
pub form_call : {url : UrlParts} {fields form : List Pair} {key secret nonce : List ℕ} {moment : ℕ} (terms : Terms) → 1 ≤ length terms.link
    → fields ≡ launch_fields terms → IsSignedForm url fields key secret moment nonce form → IsLaunchCall form (noted_launch terms)
form_call {url = url} {fields = fields} {form = form} {key = key} {secret = secret} {nonce = nonce} {moment = moment} terms some are made =
    let same : form ≡ form_pairs (launch_fields terms) key moment nonce ++ pair signature_name made.text ∷ []
    = made.is ∙ ap (λ (ps : List Pair). form_pairs ps key moment nonce ++ pair signature_name made.text ∷ []) are in
    call terms form (λ field. ap (values field) same ∙ form_stands terms key nonce made.text moment field) some

-- what the other end sees
all_is : (url : UrlParts) (form : List Pair) (q : RequestParts) → PostsForm url form q → checked.all_pairs q ≡ pairs_of url.query ++ form
all_is url form q posts =
    rw (posts.query, posts.authorization, posts.media, posts.pairs) (ap (λ (ps : List Pair). ps ++ form) (append-nil (pairs_of url.query)))

sent_stands : (url : UrlParts) (terms : Terms) (form : List Pair) (key secret nonce : List ℕ) (moment : ℕ) (q : RequestParts) → HoldsNoField (pairs_of url.query)
    → IsSignedForm url (launch_fields terms) key secret moment nonce form → PostsForm url form q → Stand terms (checked.parameters q)
sent_stands url terms form key secret nonce moment q free made posts field =
    unsigned_stand field (checked.all_pairs q)
    ∙ ap (values field) (all_is url form q posts)
    ∙ values-append field (pairs_of url.query) form
    ∙ (λ i. others_stand field (pairs_of url.query) free i ++ values field (made.is i))
    ∙ form_stands terms key nonce made.text moment field

pub form_says_launch : FormSaysLaunch
form_says_launch other url terms form key secret nonce moment q some can are free made posts = record {
  believed = signed_is_believed.0 other url (launch_fields terms) form key secret nonce moment q can (holds_none terms) are made posts;
  call = call terms (checked.parameters q) (sent_stands url terms form key secret nonce moment q free made posts) some;
}
