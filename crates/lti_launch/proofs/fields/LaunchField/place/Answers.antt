use denote.Enum.Declared.{tag_of}
use Rattle.std.proofs.Common.{◌≡◌, refl}
use Rattle.lti_launch.specs.contracts.fields.LaunchField.{the_type}
use Rattle.lti_launch.specs.declared.fields.LaunchField.{LaunchField}
use Rattle.lti_launch.specs.declared.fields.LaunchField.TheVariants.{LtiMessageType, LtiVersion, ResourceLinkId, ResourceLinkTitle, ResourceLinkDescription, UserId, UserImage, Roles, RoleScopeMentor, ContextId, ContextType, ContextTitle, ContextLabel, LisPersonNameGiven, LisPersonNameFamily, LisPersonNameFull, LisPersonContactEmailPrimary, LisPersonSourcedid, LisCourseOfferingSourcedid, LisCourseSectionSourcedid, LisResultSourcedid, LisOutcomeServiceUrl, LaunchPresentationLocale, LaunchPresentationDocumentTarget, LaunchPresentationCssUrl, LaunchPresentationWidth, LaunchPresentationHeight, LaunchPresentationReturnUrl, ToolConsumerInfoProductFamilyCode, ToolConsumerInfoVersion, ToolConsumerInstanceGuid, ToolConsumerInstanceName, ToolConsumerInstanceDescription, ToolConsumerInstanceUrl, ToolConsumerInstanceContactEmail}
use Rattle.lti_launch.specs.Fields.{all_fields, name_of, place_of}
use Rattle.lti_launch.proofs.fields.LaunchField.place.Goals as goal

-- the tag of each counts those before it
tag_is : (field : LaunchField) → tag_of the_type field ≡ place_of field
unfolding place_of all_fields name_of
tag_is LtiMessageType = refl
tag_is LtiVersion = refl
tag_is ResourceLinkId = refl
tag_is ResourceLinkTitle = refl
tag_is ResourceLinkDescription = refl
tag_is UserId = refl
tag_is UserImage = refl
tag_is Roles = refl
tag_is RoleScopeMentor = refl
tag_is ContextId = refl
tag_is ContextType = refl
tag_is ContextTitle = refl
tag_is ContextLabel = refl
tag_is LisPersonNameGiven = refl
tag_is LisPersonNameFamily = refl
tag_is LisPersonNameFull = refl
tag_is LisPersonContactEmailPrimary = refl
tag_is LisPersonSourcedid = refl
tag_is LisCourseOfferingSourcedid = refl
tag_is LisCourseSectionSourcedid = refl
tag_is LisResultSourcedid = refl
tag_is LisOutcomeServiceUrl = refl
tag_is LaunchPresentationLocale = refl
tag_is LaunchPresentationDocumentTarget = refl
tag_is LaunchPresentationCssUrl = refl
tag_is LaunchPresentationWidth = refl
tag_is LaunchPresentationHeight = refl
tag_is LaunchPresentationReturnUrl = refl
tag_is ToolConsumerInfoProductFamilyCode = refl
tag_is ToolConsumerInfoVersion = refl
tag_is ToolConsumerInstanceGuid = refl
tag_is ToolConsumerInstanceName = refl
tag_is ToolConsumerInstanceDescription = refl
tag_is ToolConsumerInstanceUrl = refl
tag_is ToolConsumerInstanceContactEmail = refl

pub returns-clause-place : goal.returns-clause-place
returns-clause-place c = tag_is c.args.self
