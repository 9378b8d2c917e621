-- Where requests are answered (this project's own): a route has a path, and the media types that the bodies sent to it have.
use Rattle.std.specs.Prelude.{ℕ, Bool, List, [], ◌∷◌, codes, bytes_eq, Option}
use Rattle.std.specs.List.{find, list_any}
use Rattle.oauth_request.specs.Checked.{form_type}
use Rattle.lti_provider.specs.declared.routes.Route.{Route}
use Rattle.lti_provider.specs.declared.routes.Route.TheVariants.{Launches, Outcomes}

abbrev pub path_of : Route → List ℕ
path_of Launches = codes "/lti/launch"
path_of Outcomes = codes "/lti/outcomes"

-- launches are forms; outcomes are XML (RFC 7303, section 9)
abbrev pub media_of : Route → List (List ℕ)
media_of Launches = form_type ∷ []
media_of Outcomes = codes "application/xml" ∷ codes "text/xml" ∷ []

-- the route takes bodies of this media type
abbrev pub takes : Route → List ℕ → Bool
takes route media = list_any (λ type. bytes_eq media type) (media_of route)

abbrev pub routes : List Route
routes = Launches ∷ Outcomes ∷ []

-- the route of a path, if it has one
abbrev pub route_at : List ℕ → Option Route
route_at path = find (λ route. bytes_eq path (path_of route)) routes
