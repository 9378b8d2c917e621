-- The launches that this end issues (LTI 1.1.1, section 3).
use Rattle.std.specs.Prelude.{ℕ, List, [], ◌∷◌, ◌++◌}
use Rattle.lti_outside.specs.declared.pairs.Pair.{Pair}
use Rattle.lti_machine.specs.declared.call.Action.{Action}
use Rattle.lti_machine.specs.declared.call.Action.TheVariants as action
use Rattle.lti_launch.specs.Fields.{name_of}
use Rattle.lti_launch.specs.Faults.{launch_type, launch_version}
use Rattle.lti_launch.specs.declared.fields.LaunchField.{LaunchField}
use Rattle.lti_launch.specs.declared.fields.LaunchField.TheVariants.{LtiMessageType, LtiVersion, ResourceLinkId, UserId, LisResultSourcedid, LisOutcomeServiceUrl}
use Rattle.lti_consumer.specs.declared.terms.Terms.{Terms}

-- a parameter with its value
abbrev pub parameter : LaunchField → List ℕ → Pair
parameter field value = record { name = name_of field; value = value }

-- a parameter that stands only where its text isn't empty
abbrev pub given : LaunchField → List ℕ → List Pair
given field [] = []
given field (first ∷ rest) = parameter field (first ∷ rest) ∷ []

-- the parameters that every launch has
abbrev pub needed : List ℕ → List Pair
needed link = parameter LtiMessageType launch_type ∷ parameter LtiVersion launch_version ∷ parameter ResourceLinkId link ∷ []

-- the parameters of a launch with these terms, in the standard's order
unfoldable pub launch_fields : Terms → List Pair
launch_fields terms =
    needed terms.link ++ given UserId terms.user ++ given LisResultSourcedid terms.sourced_id ++ given LisOutcomeServiceUrl terms.service

-- the launch that the tool's end is asked to note: these four texts
abbrev pub noted_launch : Terms → Action
noted_launch terms = action.Launch terms.link terms.user terms.sourced_id terms.service
