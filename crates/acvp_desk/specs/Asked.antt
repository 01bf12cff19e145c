-- What an account asks the operator for: that an object is registered, or that a test session is certified.
use Rattle.std.specs.Prelude.{ℕ, ◌+◌, List, [], ◌∷◌, ◌++◌, length, Bool, true, false, ◌&&◌, nat_lt, Option, Some, None}
use Rattle.std.specs.Prelude.{option_map, option_and_then, is_some, Result, Ok, Err}
use Rattle.acvp_json.specs.CertifyBody.{certify_body_conditions, certify_body_of}
use Rattle.acvp_json.specs.Data.{Data}
use Rattle.acvp_json.specs.Envelope.{object_of}
use Rattle.acvp_json.specs.Registry.{request_data}
use Rattle.acvp_json.specs.declared.certify_body.CertifyBody.{CertifyBody}
use Rattle.acvp_mac.specs.Conditions.{Condition, first_broken}
use Rattle.acvp_policy.specs.Conditions.{is_none_or}
use Rattle.acvp_policy.specs.declared.rule.Rule.{Rule}
use Rattle.acvp_policy.specs.declared.rule.Rule.TheVariants as rule
use Rattle.acvp_registry.specs.Object.{KeptObject, object_conditions, object_vendor}
use Rattle.acvp_registry.specs.declared.kind.Kind.{Kind}
use Rattle.acvp_registry.specs.declared.kind.Kind.TheVariants.{Vendor, Module, Environment}
use Rattle.acvp_registry.specs.declared.request.PendingRequest.{PendingRequest}
use Rattle.acvp_registry.specs.declared.request.Status.TheVariants as status
use Rattle.acvp_tables.specs.Content.{requests_of}
use Rattle.acvp_tables.specs.State.{State, first_of_account}
use Rattle.acvp_tables.specs.declared.change.Change.{Change}
use Rattle.acvp_tables.specs.declared.change.Change.TheVariants as change
use Rattle.acvp_tables.specs.declared.change.NewCertification.{NewCertification}
use Rattle.acvp_tables.specs.declared.change.NewRequest.{NewRequest}
use Rattle.acvp_tables.specs.declared.rows.ObjectRow.{ObjectRow}
use Rattle.acvp_desk.specs.Bodies.{body_conditions, object_rule, rule_of}
use Rattle.acvp_desk.specs.Registries.{own_object}
use Rattle.acvp_desk.specs.declared.found.Grounds.{Grounds}

-- ---- what a body asks for

-- what is read of a body on which all conditions hold; or the rule of the first that doesn't. A body of which nothing
-- is read breaks one
abbrev pub judged_read : {X : Type 0} → Option Rule → Option X → Result X Rule
judged_read (Some broken) read = Err broken
judged_read None (Some x) = Ok x
judged_read None None = Err rule.BodyEnvelope

-- the conditions on the body of a request to register an object of a kind
abbrev pub registered_conditions : Kind → List ℕ → List (Condition Rule)
registered_conditions kind body = body_conditions object_rule (object_conditions kind) body

abbrev pub kept_as : Kind → Data → KeptObject
kept_as kind d = record { kind = kind; value = d }

-- the object that it asks to register
unfoldable pub object_in : Kind → List ℕ → Result KeptObject Rule
object_in kind body =
    judged_read (first_broken (registered_conditions kind body)) (option_map (kept_as kind) (object_of body))

-- the conditions on the body of a request for certification
abbrev pub certified_conditions : List ℕ → List (Condition Rule)
certified_conditions body = body_conditions rule_of certify_body_conditions body

-- the module and the environment that it asks to certify
unfoldable pub certified_in : List ℕ → Result CertifyBody Rule
certified_in body =
    judged_read (first_broken (certified_conditions body)) (option_and_then certify_body_of (object_of body))

-- ---- what it names

-- the vendor that a module names is there, and the account's
abbrev pub has_own_vendor : ℕ → List ObjectRow → KeptObject → Bool
has_own_vendor u objects object = is_none_or (object_vendor object) (λ n. is_some (own_object Vendor u n objects))

-- the module and the environment are
abbrev pub has_own_parts : ℕ → List ObjectRow → CertifyBody → Bool
has_own_parts u objects body =
    is_some (own_object Module u body.module objects) && is_some (own_object Environment u body.environment objects)

-- all that is named by a body is there; by one of which nothing is read nothing is named
abbrev pub is_named : {X : Type 0} → Result X Rule → (X → Bool) → Bool
is_named (Ok x) test = test x
is_named (Err broken) test = true

-- so many requests the account has, and whether all that is named is there
abbrev pub object_grounds : ℕ → Result KeptObject Rule → State → Grounds
object_grounds u object state = record {
  requests = length (requests_of u state.requests);
  named = is_named object (has_own_vendor u state.objects);
}

abbrev pub certification_grounds : ℕ → Result CertifyBody Rule → State → Grounds
certification_grounds u parts state = record {
  requests = length (requests_of u state.requests);
  named = is_named parts (has_own_parts u state.objects);
}

-- ---- the conditions

-- what the body names is there, and the account has no 999999 requests yet
abbrev pub grounds_conditions : Grounds → List (Condition Rule)
grounds_conditions grounds = (grounds.named, rule.NoReference) ∷ (nat_lt grounds.requests 999999, rule.AccountFull) ∷ []

-- all conditions on the body hold
abbrev pub read_conditions : {X : Type 0} → Result X Rule → List (Condition Rule)
read_conditions (Ok x) = []
read_conditions (Err broken) = (false, broken) ∷ []

abbrev pub requested_conditions : {X : Type 0} → Result X Rule → Grounds → List (Condition Rule)
requested_conditions read grounds = read_conditions read ++ grounds_conditions grounds

-- ---- the request that is made

-- the account's next
abbrev pub next_request : ℕ → Grounds → ℕ
next_request u grounds = first_of_account u + grounds.requests

abbrev pub request_made : ℕ → Grounds → KeptObject → NewRequest
request_made u grounds object = record { number = next_request u grounds; account = u; object = object }

abbrev pub certification_made : ℕ → ℕ → Grounds → CertifyBody → NewCertification
certification_made u session grounds body = record {
  number = next_request u grounds;
  account = u;
  certification = record { «module» = body.module; environment = body.environment; session = session };
}

abbrev pub object_change : ℕ → Result KeptObject Rule → Grounds → Option Change
object_change u (Ok object) grounds = Some (change.NewRequest (request_made u grounds object))
object_change u (Err broken) grounds = None

abbrev pub certification_change : ℕ → ℕ → Result CertifyBody Rule → Grounds → Option Change
certification_change u session (Ok parts) grounds = Some (change.Certify (certification_made u session grounds parts))
certification_change u session (Err broken) grounds = None

-- it waits for the operator's decision
abbrev pub request_waiting : Kind → ℕ → PendingRequest
request_waiting kind n = record { number = n; kind = kind; status = status.Initial; approved = None }

abbrev pub waiting_reply : Kind → ℕ → Grounds → Data
waiting_reply kind u grounds = request_data (request_waiting kind (next_request u grounds))
