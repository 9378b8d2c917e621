-- What stands under the names of a launch's parameters, in the parameters that this end writes and in others.
use Rattle.std.proofs.Common.{◌≡◌, ℕ, nat_eq, Bool, true, false, not, ◌||◌, cond, List, [], ◌∷◌, ◌++◌, append-nil, codes, bytes_eq, refl, sym, ap, ◌∙◌, arith}
use Rattle.std.specs.List.{filter, list_any, list_all, starts_with}
use Rattle.std.proofs.lemmas.Slice.Eq.{bytes_eq-Decides}
use Rattle.lti_outside.specs.declared.pairs.Pair.{Pair}
use Rattle.lti_outside.proofs.BoolLemmas.{and_split}
use Rattle.oauth_request.specs.Protocol as protocol
use Rattle.oauth_request.specs.Signing.{HoldsNone}
use Rattle.oauth_request.specs.declared.fields.Field.{Field}
use Rattle.oauth_request.specs.declared.fields.Field.TheVariants.{ConsumerKey, SignatureMethod, Timestamp, Nonce, Signature, Version, Token, BodyHash}
use Rattle.lti_launch.specs.Fields.{all_fields, name_of}
use Rattle.lti_launch.specs.Parameters.{values, is_named, is_field, is_oauth}
use Rattle.lti_launch.specs.Faults.{launch_type, launch_version}
use Rattle.lti_launch.specs.declared.fields.LaunchField.{LaunchField}
use Rattle.lti_launch.specs.declared.fields.LaunchField.TheVariants.{LtiMessageType, LtiVersion, ResourceLinkId, ResourceLinkTitle, ResourceLinkDescription, UserId, UserImage, Roles, RoleScopeMentor, ContextId, ContextType, ContextTitle, ContextLabel, LisPersonNameGiven, LisPersonNameFamily, LisPersonNameFull, LisPersonContactEmailPrimary, LisPersonSourcedid, LisCourseOfferingSourcedid, LisCourseSectionSourcedid, LisResultSourcedid, LisOutcomeServiceUrl, LaunchPresentationLocale, LaunchPresentationDocumentTarget, LaunchPresentationCssUrl, LaunchPresentationWidth, LaunchPresentationHeight, LaunchPresentationReturnUrl, ToolConsumerInfoProductFamilyCode, ToolConsumerInfoVersion, ToolConsumerInstanceGuid, ToolConsumerInstanceName, ToolConsumerInstanceDescription, ToolConsumerInstanceUrl, ToolConsumerInstanceContactEmail}
use Rattle.lti_launch.proofs.NameLemmas.{one_of_name, is_plain}
use Rattle.lti_launch.proofs.ValueLemmas.{values-append, first_other}
use Rattle.lti_launch.proofs.LaunchLemmas.{fails_alone}
use Rattle.lti_consumer.specs.Launches.{parameter, needed, given, launch_fields}
use Rattle.lti_consumer.specs.declared.terms.Terms.{Terms}

either_no : (here rest : Bool) → here || rest ≡ false → (here ≡ false) × (rest ≡ false)
either_no true rest is = absurd (let e = is in cc)
either_no false rest is = (refl, is)

-- names of the protocol
oauth_name : (f : Field) → starts_with nat_eq (protocol.name_of f) (codes "oauth_") ≡ true
unfolding protocol.key_name protocol.method_name protocol.timestamp_name protocol.nonce_name protocol.signature_name protocol.version_name protocol.token_name protocol.body_hash_name
oauth_name ConsumerKey = refl
oauth_name SignatureMethod = refl
oauth_name Timestamp = refl
oauth_name Nonce = refl
oauth_name Signature = refl
oauth_name Version = refl
oauth_name Token = refl
oauth_name BodyHash = refl

-- a launch's parameter has none
apart : (field : LaunchField) (name : List ℕ) → starts_with nat_eq name (codes "oauth_") ≡ true → bytes_eq (name_of field) name ≡ false
apart field name is = by (bytes_eq (name_of field) name) refl
  where
    by : (b : Bool) → bytes_eq (name_of field) name ≡ b → bytes_eq (name_of field) name ≡ false
    by true test =
        let same : name_of field ≡ name = (bytes_eq-Decides (name_of field) name).0 test in
        absurd (grind (arith, (is_plain field).oauth, is, ap (λ (n : List ℕ). starts_with nat_eq n (codes "oauth_")) same))
    by false test = test

any_append : (t : Pair → Bool) (ps qs : List Pair) → list_any t ps ≡ false → list_any t qs ≡ false → list_any t (ps ++ qs) ≡ false
any_append t [] qs one other = other
any_append t (p ∷ ps) qs one other =
    let both = either_no (t p) (list_any t ps) one in
    rw both.0 (any_append t ps qs both.1 other)

any_given : (t : Pair → Bool) (field : LaunchField) (text : List ℕ) → ((value : List ℕ) → t (parameter field value) ≡ false) → list_any t (given field text) ≡ false
any_given t field [] none = refl
any_given t field (c ∷ text) none = rw (none (c ∷ text)) refl

-- what this end writes can be signed
pub holds_none : (terms : Terms) → HoldsNone (launch_fields terms)
unfolding launch_fields
holds_none terms f =
    let t : Pair → Bool = λ p. bytes_eq p.name (protocol.name_of f) in
    let free : (field : LaunchField) (value : List ℕ) → t (parameter field value) ≡ false = λ field value. apart field (protocol.name_of f) (oauth_name f) in
    any_append t ((needed terms.link ++ given UserId terms.user) ++ given LisResultSourcedid terms.sourced_id) (given LisOutcomeServiceUrl terms.service)
    (any_append t (needed terms.link ++ given UserId terms.user) (given LisResultSourcedid terms.sourced_id)
    (any_append t (needed terms.link) (given UserId terms.user)
    (rw (free LtiMessageType launch_type, free LtiVersion launch_version, free ResourceLinkId terms.link) refl)
    (any_given t UserId terms.user (free UserId)))
    (any_given t LisResultSourcedid terms.sourced_id (free LisResultSourcedid)))
    (any_given t LisOutcomeServiceUrl terms.service (free LisOutcomeServiceUrl))

-- a text that is given, as values
abbrev pub alone : List ℕ → List (List ℕ)
alone [] = []
alone (c ∷ text) = (c ∷ text) ∷ []

-- what stands under each name
abbrev pub standing : Terms → LaunchField → List (List ℕ)
standing terms LtiMessageType = launch_type ∷ []
standing terms LtiVersion = launch_version ∷ []
standing terms ResourceLinkId = terms.link ∷ []
standing terms UserId = alone terms.user
standing terms LisResultSourcedid = alone terms.sourced_id
standing terms LisOutcomeServiceUrl = alone terms.service
standing terms other = []

values_given : (field other : LaunchField) (text : List ℕ) → values field (given other text) ≡ cond (bytes_eq (name_of field) (name_of other)) (alone text) []
unfolding values
values_given field other [] = by (bytes_eq (name_of field) (name_of other))
  where
    by : (b : Bool) → ◌≡◌ {A = List (List ℕ)} [] (cond b [] [])
    by true = refl
    by false = refl
values_given field other (c ∷ text) = by (bytes_eq (name_of field) (name_of other)) refl
  where
    by : (b : Bool) → bytes_eq (name_of field) (name_of other) ≡ b → values field (given other (c ∷ text)) ≡ cond b ((c ∷ text) ∷ []) []
    by true test = rw test refl
    by false test = rw test refl

-- the values of the three texts that may be empty, by the names
abbrev by_name : Terms → LaunchField → List (List ℕ)
by_name terms field =
    values field (needed terms.link) ++ cond (bytes_eq (name_of field) (name_of UserId)) (alone terms.user) []
    ++ cond (bytes_eq (name_of field) (name_of LisResultSourcedid)) (alone terms.sourced_id) []
    ++ cond (bytes_eq (name_of field) (name_of LisOutcomeServiceUrl)) (alone terms.service) []

by_names : (terms : Terms) (field : LaunchField) → by_name terms field ≡ standing terms field
unfolding values name_of
by_names terms LtiMessageType = refl
by_names terms LtiVersion = refl
by_names terms ResourceLinkId = refl
by_names terms UserId = append-nil (alone terms.user ++ []) ∙ append-nil (alone terms.user)
by_names terms LisResultSourcedid = append-nil (alone terms.sourced_id)
by_names terms LisOutcomeServiceUrl = refl
by_names terms ResourceLinkTitle = refl
by_names terms ResourceLinkDescription = refl
by_names terms UserImage = refl
by_names terms Roles = refl
by_names terms RoleScopeMentor = refl
by_names terms ContextId = refl
by_names terms ContextType = refl
by_names terms ContextTitle = refl
by_names terms ContextLabel = refl
by_names terms LisPersonNameGiven = refl
by_names terms LisPersonNameFamily = refl
by_names terms LisPersonNameFull = refl
by_names terms LisPersonContactEmailPrimary = refl
by_names terms LisPersonSourcedid = refl
by_names terms LisCourseOfferingSourcedid = refl
by_names terms LisCourseSectionSourcedid = refl
by_names terms LaunchPresentationLocale = refl
by_names terms LaunchPresentationDocumentTarget = refl
by_names terms LaunchPresentationCssUrl = refl
by_names terms LaunchPresentationWidth = refl
by_names terms LaunchPresentationHeight = refl
by_names terms LaunchPresentationReturnUrl = refl
by_names terms ToolConsumerInfoProductFamilyCode = refl
by_names terms ToolConsumerInfoVersion = refl
by_names terms ToolConsumerInstanceGuid = refl
by_names terms ToolConsumerInstanceName = refl
by_names terms ToolConsumerInstanceDescription = refl
by_names terms ToolConsumerInstanceUrl = refl
by_names terms ToolConsumerInstanceContactEmail = refl

pub fields_stand : (terms : Terms) (field : LaunchField) → values field (launch_fields terms) ≡ standing terms field
unfolding launch_fields
fields_stand terms field =
    values-append field ((needed terms.link ++ given UserId terms.user) ++ given LisResultSourcedid terms.sourced_id) (given LisOutcomeServiceUrl terms.service)
    ∙ ap (λ (vs : List (List ℕ)). vs ++ values field (given LisOutcomeServiceUrl terms.service))
    (values-append field (needed terms.link ++ given UserId terms.user) (given LisResultSourcedid terms.sourced_id)
    ∙ ap (λ (vs : List (List ℕ)). vs ++ values field (given LisResultSourcedid terms.sourced_id)) (values-append field (needed terms.link) (given UserId terms.user)))
    ∙ (λ i. values field (needed terms.link) ++ values_given field UserId terms.user i ++ values_given field LisResultSourcedid terms.sourced_id i ++ values_given field LisOutcomeServiceUrl terms.service i)
    ∙ by_names terms field

no_values : (field : LaunchField) → values field [] ≡ []
unfolding values
no_values field = refl

-- nothing stands among the parameters of the protocol
pub oauth_stand : (field : LaunchField) (ps : List Pair) → list_all is_oauth ps ≡ true → values field ps ≡ []
unfolding is_oauth
oauth_stand field [] all = no_values field
oauth_stand field (p ∷ ps) all =
    let both = and_split (is_oauth p) (list_all is_oauth ps) all in
    first_other field p ps (apart field p.name both.0) ∙ oauth_stand field ps both.1

-- nor among pairs that have no name of a launch's parameter
not_named : (field : LaunchField) (p : Pair) → is_field p ≡ false → is_named field p ≡ false
unfolding is_field
not_named field p none = fails_alone (λ other. bytes_eq (name_of other) (name_of field)) (λ other. is_named other p) all_fields field (one_of_name field) none

pub others_stand : (field : LaunchField) (ps : List Pair) → list_any is_field ps ≡ false → values field ps ≡ []
others_stand field [] none = no_values field
others_stand field (p ∷ ps) none =
    let both = either_no (is_field p) (list_any is_field ps) none in
    first_other field p ps (not_named field p both.0) ∙ others_stand field ps both.1

-- what stands under a parameter's name stands there without the signature too
pub unsigned_stand : (field : LaunchField) (ps : List Pair) → values field (filter (λ (p : Pair). not (bytes_eq p.name protocol.signature_name)) ps) ≡ values field ps
unsigned_stand field [] = refl
unsigned_stand field (p ∷ ps) = by (bytes_eq p.name protocol.signature_name) refl (unsigned_stand field ps)
  where
    rest : List Pair
    rest = filter (λ (q : Pair). not (bytes_eq q.name protocol.signature_name)) ps

    by : (b : Bool) → bytes_eq p.name protocol.signature_name ≡ b → values field rest ≡ values field ps → values field (cond (not b) (p ∷ rest) rest) ≡ values field (p ∷ ps)
    by true test more =
        let same : p.name ≡ protocol.signature_name = (bytes_eq-Decides p.name protocol.signature_name).0 test in
        more ∙ sym (first_other field p ps (ap (bytes_eq (name_of field)) same ∙ apart field protocol.signature_name (oauth_name Signature)))
    by false test more =
        values-append field (p ∷ []) rest ∙ ap (λ (vs : List (List ℕ)). values field (p ∷ []) ++ vs) more ∙ sym (values-append field (p ∷ []) ps)
