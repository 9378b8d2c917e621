-- The parameters of a launch (LTI 1.1.1, section 3), in the standard's order, and their names.
use Rattle.std.specs.Prelude.{ℕ, ◌==◌, List, [], ◌∷◌, length, filter, codes, bytes_eq}
use Rattle.std.specs.List.{position_or_len}
use Rattle.lti_launch.specs.declared.fields.LaunchField.{LaunchField}
use Rattle.lti_launch.specs.declared.fields.LaunchField.TheVariants.{LtiMessageType, LtiVersion, ResourceLinkId, ResourceLinkTitle, ResourceLinkDescription, UserId, UserImage, Roles, RoleScopeMentor, ContextId, ContextType, ContextTitle, ContextLabel, LisPersonNameGiven, LisPersonNameFamily, LisPersonNameFull, LisPersonContactEmailPrimary, LisPersonSourcedid, LisCourseOfferingSourcedid, LisCourseSectionSourcedid, LisResultSourcedid, LisOutcomeServiceUrl, LaunchPresentationLocale, LaunchPresentationDocumentTarget, LaunchPresentationCssUrl, LaunchPresentationWidth, LaunchPresentationHeight, LaunchPresentationReturnUrl, ToolConsumerInfoProductFamilyCode, ToolConsumerInfoVersion, ToolConsumerInstanceGuid, ToolConsumerInstanceName, ToolConsumerInstanceDescription, ToolConsumerInstanceUrl, ToolConsumerInstanceContactEmail}

-- all of them, in order
unfoldable pub all_fields : List LaunchField
all_fields =
    LtiMessageType ∷ LtiVersion ∷ ResourceLinkId ∷ ResourceLinkTitle ∷ ResourceLinkDescription
    ∷ UserId ∷ UserImage ∷ Roles ∷ RoleScopeMentor ∷ ContextId
    ∷ ContextType ∷ ContextTitle ∷ ContextLabel ∷ LisPersonNameGiven ∷ LisPersonNameFamily
    ∷ LisPersonNameFull ∷ LisPersonContactEmailPrimary ∷ LisPersonSourcedid ∷ LisCourseOfferingSourcedid ∷ LisCourseSectionSourcedid
    ∷ LisResultSourcedid ∷ LisOutcomeServiceUrl ∷ LaunchPresentationLocale ∷ LaunchPresentationDocumentTarget ∷ LaunchPresentationCssUrl
    ∷ LaunchPresentationWidth ∷ LaunchPresentationHeight ∷ LaunchPresentationReturnUrl ∷ ToolConsumerInfoProductFamilyCode ∷ ToolConsumerInfoVersion
    ∷ ToolConsumerInstanceGuid ∷ ToolConsumerInstanceName ∷ ToolConsumerInstanceDescription ∷ ToolConsumerInstanceUrl ∷ ToolConsumerInstanceContactEmail ∷ []

-- the name of each
unfoldable pub name_of : LaunchField → List ℕ
name_of LtiMessageType = codes "lti_message_type"
name_of LtiVersion = codes "lti_version"
name_of ResourceLinkId = codes "resource_link_id"
name_of ResourceLinkTitle = codes "resource_link_title"
name_of ResourceLinkDescription = codes "resource_link_description"
name_of UserId = codes "user_id"
name_of UserImage = codes "user_image"
name_of Roles = codes "roles"
name_of RoleScopeMentor = codes "role_scope_mentor"
name_of ContextId = codes "context_id"
name_of ContextType = codes "context_type"
name_of ContextTitle = codes "context_title"
name_of ContextLabel = codes "context_label"
name_of LisPersonNameGiven = codes "lis_person_name_given"
name_of LisPersonNameFamily = codes "lis_person_name_family"
name_of LisPersonNameFull = codes "lis_person_name_full"
name_of LisPersonContactEmailPrimary = codes "lis_person_contact_email_primary"
name_of LisPersonSourcedid = codes "lis_person_sourcedid"
name_of LisCourseOfferingSourcedid = codes "lis_course_offering_sourcedid"
name_of LisCourseSectionSourcedid = codes "lis_course_section_sourcedid"
name_of LisResultSourcedid = codes "lis_result_sourcedid"
name_of LisOutcomeServiceUrl = codes "lis_outcome_service_url"
name_of LaunchPresentationLocale = codes "launch_presentation_locale"
name_of LaunchPresentationDocumentTarget = codes "launch_presentation_document_target"
name_of LaunchPresentationCssUrl = codes "launch_presentation_css_url"
name_of LaunchPresentationWidth = codes "launch_presentation_width"
name_of LaunchPresentationHeight = codes "launch_presentation_height"
name_of LaunchPresentationReturnUrl = codes "launch_presentation_return_url"
name_of ToolConsumerInfoProductFamilyCode = codes "tool_consumer_info_product_family_code"
name_of ToolConsumerInfoVersion = codes "tool_consumer_info_version"
name_of ToolConsumerInstanceGuid = codes "tool_consumer_instance_guid"
name_of ToolConsumerInstanceName = codes "tool_consumer_instance_name"
name_of ToolConsumerInstanceDescription = codes "tool_consumer_instance_description"
name_of ToolConsumerInstanceUrl = codes "tool_consumer_instance_url"
name_of ToolConsumerInstanceContactEmail = codes "tool_consumer_instance_contact_email"

-- where a parameter stands in the order, from 0
unfoldable pub place_of : LaunchField → ℕ
place_of field = position_or_len (λ other. bytes_eq (name_of other) (name_of field)) all_fields

-- those whose names have so many bytes
unfoldable pub fields_of_length : ℕ → List LaunchField
fields_of_length count = filter (λ field. length (name_of field) == count) all_fields
