-- The names of the parameters, computed.
use Rattle.std.proofs.Common.{◌≡◌, ℕ, false, nat_eq, List, [], ◌∷◌, codes, bytes_eq, refl}
use Rattle.std.specs.List.{filter, starts_with}
use Rattle.lti_launch.specs.declared.fields.LaunchField.{LaunchField}
use Rattle.lti_launch.specs.declared.fields.LaunchField.TheVariants.{LtiMessageType, LtiVersion, ResourceLinkId, ResourceLinkTitle, ResourceLinkDescription, UserId, UserImage, Roles, RoleScopeMentor, ContextId, ContextType, ContextTitle, ContextLabel, LisPersonNameGiven, LisPersonNameFamily, LisPersonNameFull, LisPersonContactEmailPrimary, LisPersonSourcedid, LisCourseOfferingSourcedid, LisCourseSectionSourcedid, LisResultSourcedid, LisOutcomeServiceUrl, LaunchPresentationLocale, LaunchPresentationDocumentTarget, LaunchPresentationCssUrl, LaunchPresentationWidth, LaunchPresentationHeight, LaunchPresentationReturnUrl, ToolConsumerInfoProductFamilyCode, ToolConsumerInfoVersion, ToolConsumerInstanceGuid, ToolConsumerInstanceName, ToolConsumerInstanceDescription, ToolConsumerInstanceUrl, ToolConsumerInstanceContactEmail}
use Rattle.lti_launch.specs.Fields.{all_fields, name_of}

-- a parameter stands once in the order, and no other one has its name
pub one_of_name : (field : LaunchField) → filter (λ other. bytes_eq (name_of other) (name_of field)) all_fields ≡ field ∷ []
unfolding all_fields name_of
one_of_name LtiMessageType = refl
one_of_name LtiVersion = refl
one_of_name ResourceLinkId = refl
one_of_name ResourceLinkTitle = refl
one_of_name ResourceLinkDescription = refl
one_of_name UserId = refl
one_of_name UserImage = refl
one_of_name Roles = refl
one_of_name RoleScopeMentor = refl
one_of_name ContextId = refl
one_of_name ContextType = refl
one_of_name ContextTitle = refl
one_of_name ContextLabel = refl
one_of_name LisPersonNameGiven = refl
one_of_name LisPersonNameFamily = refl
one_of_name LisPersonNameFull = refl
one_of_name LisPersonContactEmailPrimary = refl
one_of_name LisPersonSourcedid = refl
one_of_name LisCourseOfferingSourcedid = refl
one_of_name LisCourseSectionSourcedid = refl
one_of_name LisResultSourcedid = refl
one_of_name LisOutcomeServiceUrl = refl
one_of_name LaunchPresentationLocale = refl
one_of_name LaunchPresentationDocumentTarget = refl
one_of_name LaunchPresentationCssUrl = refl
one_of_name LaunchPresentationWidth = refl
one_of_name LaunchPresentationHeight = refl
one_of_name LaunchPresentationReturnUrl = refl
one_of_name ToolConsumerInfoProductFamilyCode = refl
one_of_name ToolConsumerInfoVersion = refl
one_of_name ToolConsumerInstanceGuid = refl
one_of_name ToolConsumerInstanceName = refl
one_of_name ToolConsumerInstanceDescription = refl
one_of_name ToolConsumerInstanceUrl = refl
one_of_name ToolConsumerInstanceContactEmail = refl

-- a parameter's name has no prefix of the other kinds
pub record IsPlain (name : List ℕ) : Type 0 where
  pub custom : starts_with nat_eq name (codes "custom_") ≡ false
  pub ext : starts_with nat_eq name (codes "ext_") ≡ false
  pub oauth : starts_with nat_eq name (codes "oauth_") ≡ false

pub is_plain : (field : LaunchField) → IsPlain (name_of field)
unfolding name_of
is_plain LtiMessageType = record { custom = refl; ext = refl; oauth = refl }
is_plain LtiVersion = record { custom = refl; ext = refl; oauth = refl }
is_plain ResourceLinkId = record { custom = refl; ext = refl; oauth = refl }
is_plain ResourceLinkTitle = record { custom = refl; ext = refl; oauth = refl }
is_plain ResourceLinkDescription = record { custom = refl; ext = refl; oauth = refl }
is_plain UserId = record { custom = refl; ext = refl; oauth = refl }
is_plain UserImage = record { custom = refl; ext = refl; oauth = refl }
is_plain Roles = record { custom = refl; ext = refl; oauth = refl }
is_plain RoleScopeMentor = record { custom = refl; ext = refl; oauth = refl }
is_plain ContextId = record { custom = refl; ext = refl; oauth = refl }
is_plain ContextType = record { custom = refl; ext = refl; oauth = refl }
is_plain ContextTitle = record { custom = refl; ext = refl; oauth = refl }
is_plain ContextLabel = record { custom = refl; ext = refl; oauth = refl }
is_plain LisPersonNameGiven = record { custom = refl; ext = refl; oauth = refl }
is_plain LisPersonNameFamily = record { custom = refl; ext = refl; oauth = refl }
is_plain LisPersonNameFull = record { custom = refl; ext = refl; oauth = refl }
is_plain LisPersonContactEmailPrimary = record { custom = refl; ext = refl; oauth = refl }
is_plain LisPersonSourcedid = record { custom = refl; ext = refl; oauth = refl }
is_plain LisCourseOfferingSourcedid = record { custom = refl; ext = refl; oauth = refl }
is_plain LisCourseSectionSourcedid = record { custom = refl; ext = refl; oauth = refl }
is_plain LisResultSourcedid = record { custom = refl; ext = refl; oauth = refl }
is_plain LisOutcomeServiceUrl = record { custom = refl; ext = refl; oauth = refl }
is_plain LaunchPresentationLocale = record { custom = refl; ext = refl; oauth = refl }
is_plain LaunchPresentationDocumentTarget = record { custom = refl; ext = refl; oauth = refl }
is_plain LaunchPresentationCssUrl = record { custom = refl; ext = refl; oauth = refl }
is_plain LaunchPresentationWidth = record { custom = refl; ext = refl; oauth = refl }
is_plain LaunchPresentationHeight = record { custom = refl; ext = refl; oauth = refl }
is_plain LaunchPresentationReturnUrl = record { custom = refl; ext = refl; oauth = refl }
is_plain ToolConsumerInfoProductFamilyCode = record { custom = refl; ext = refl; oauth = refl }
is_plain ToolConsumerInfoVersion = record { custom = refl; ext = refl; oauth = refl }
is_plain ToolConsumerInstanceGuid = record { custom = refl; ext = refl; oauth = refl }
is_plain ToolConsumerInstanceName = record { custom = refl; ext = refl; oauth = refl }
is_plain ToolConsumerInstanceDescription = record { custom = refl; ext = refl; oauth = refl }
is_plain ToolConsumerInstanceUrl = record { custom = refl; ext = refl; oauth = refl }
is_plain ToolConsumerInstanceContactEmail = record { custom = refl; ext = refl; oauth = refl }
