-- The conditions of an action that the policy doesn't know: those on its query or its body, and on the room that is
-- left.
use Rattle.std.specs.Prelude.{List, [], ◌∷◌, ◌++◌, ℕ, nat_lt, Option, Some, None, is_some}
use Rattle.acvp_caps.specs.Registered.{registration_conditions}
use Rattle.acvp_gen.specs.Prompt.{PromptsValue}
use Rattle.acvp_json.specs.ReviewerBody.{reviewer_body_conditions}
use Rattle.acvp_mac.specs.Conditions.{Condition}
use Rattle.acvp_policy.specs.declared.rule.Rule.{Rule}
use Rattle.acvp_policy.specs.declared.rule.Rule.TheVariants as rule
use Rattle.acvp_desk.specs.Bodies.{body_conditions, rule_of, registration_rule}
use Rattle.acvp_desk.specs.Replies.{prompts_from}
use Rattle.acvp_desk.specs.Reviewers.{reviewer_at, has_room}
use Rattle.acvp_desk.specs.Submissions.{answers_conditions}
use Rattle.acvp_desk.specs.declared.found.Place.{Place}
use Rattle.acvp_desk.specs.declared.found.Place.TheVariants as place
use Rattle.acvp_desk.specs.declared.found.RegistryPlace.{RegistryPlace}
use Rattle.acvp_desk.specs.declared.found.RegistryPlace.TheVariants as in_registry
use Rattle.acvp_desk.specs.declared.found.SessionPlace.{SessionPlace}
use Rattle.acvp_desk.specs.declared.found.SessionPlace.TheVariants as in_session
use Rattle.acvp_desk.specs.declared.found.SetPlace.{SetPlace}
use Rattle.acvp_desk.specs.declared.found.SetPlace.TheVariants as in_set
use Rattle.acvp_desk.specs.declared.found.Submission.{Submission}
use Rattle.acvp_desk.specs.Asked.{requested_conditions}

-- on the body of who adds to these reviewers, and on the room among them
abbrev pub added_conditions : List ℕ → List ℕ → List (Condition Rule)
added_conditions body accounts =
    body_conditions rule_of reviewer_body_conditions body
    ++ (has_room accounts (reviewer_at body), rule.ReviewersFull) ∷ []

abbrev pub session_place_conditions : List ℕ → SessionPlace → List (Condition Rule)
session_place_conditions body (in_session.AddReviewer accounts) = added_conditions body accounts
session_place_conditions body (in_session.Read sets) = []
session_place_conditions body in_session.Cancel = []
session_place_conditions body (in_session.Results sets) = []
session_place_conditions body (in_session.ListSets sets) = []
session_place_conditions body (in_session.ListReviewers accounts) = []

-- on a body of answers to a vector set: those by its prompts
abbrev pub prompted_conditions : List ℕ → Option PromptsValue → List (Condition Rule)
prompted_conditions body None = []
prompted_conditions body (Some prompts) = answers_conditions prompts body

abbrev pub submitted_conditions : List (List ℕ) → ℕ → List ℕ → Option Submission → List (Condition Rule)
submitted_conditions seeds n body (Some s) = prompted_conditions body (prompts_from seeds n s.source)
submitted_conditions seeds n body None = []

abbrev pub set_place_conditions : List (List ℕ) → ℕ → List ℕ → SetPlace → List (Condition Rule)
set_place_conditions seeds n body (in_set.Submit submission) = submitted_conditions seeds n body submission
set_place_conditions seeds n body (in_set.Resubmit submission) = submitted_conditions seeds n body submission
set_place_conditions seeds n body (in_set.Made it source) = []
set_place_conditions seeds n body (in_set.Verdicts verdicts) = []

-- the query is a page
abbrev pub page_conditions : {X : Type 0} → Option X → List (Condition Rule)
page_conditions page = (is_some page, rule.BadPage) ∷ []

-- on the registries and requests of the account
abbrev pub registry_place_conditions : RegistryPlace → List (Condition Rule)
registry_place_conditions (in_registry.New of object grounds) = requested_conditions object grounds
registry_place_conditions (in_registry.Objects of found) = page_conditions found
registry_place_conditions (in_registry.Requests found) = page_conditions found
registry_place_conditions (in_registry.Object of n row) = []
registry_place_conditions (in_registry.Request n row) = []

-- on the body of who registers a session beside so many, and on the numbers that are left
abbrev pub new_session_conditions : List ℕ → ℕ → List (Condition Rule)
new_session_conditions body sessions =
    body_conditions registration_rule registration_conditions body ++ (nat_lt sessions 999999, rule.AccountFull) ∷ []

-- on what was found of what a caller asks
abbrev pub place_conditions : List (List ℕ) → List ℕ → Place → List (Condition Rule)
place_conditions seeds body (place.Session n found it) = session_place_conditions body it
place_conditions seeds body (place.Set session n found it) = set_place_conditions seeds n body it
place_conditions seeds body (place.NewSession sessions) = new_session_conditions body sessions
place_conditions seeds body (place.Sessions found) = page_conditions found
place_conditions seeds body (place.Certify n found parts grounds) = requested_conditions parts grounds
place_conditions seeds body (place.Registry it) = registry_place_conditions it
place_conditions seeds body (place.Account counts) = []
place_conditions seeds body place.Algorithms = []
place_conditions seeds body (place.Algorithm n) = []
place_conditions seeds body (place.Reviewer n m found accounts) = []
place_conditions seeds body (place.CancelSet session n found sets) = []
