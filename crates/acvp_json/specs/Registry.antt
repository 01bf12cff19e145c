-- The objects of vendors, modules and operational environments, and of the requests for them.
use Rattle.std.specs.Prelude.{ℕ, List, codes, Option, Some, None, unwrap_or}
use Rattle.serde_json.specs.Data.{Data, null, string, object, no_members, member}
use Rattle.acvp_registry.specs.Json.{without_float}
use Rattle.acvp_registry.specs.Object.{KeptObject, with_url_data}
use Rattle.acvp_registry.specs.declared.request.PendingRequest.{PendingRequest}
use Rattle.acvp_registry.specs.declared.request.Status.{Status}
use Rattle.acvp_registry.specs.declared.request.Status.TheVariants.{Initial, Approved, Rejected}
use Rattle.acvp_json.specs.declared.registered.Registered.{Registered}
use Rattle.acvp_json.specs.Session.{outcome_data}
use Rattle.acvp_json.specs.Urls.{request_url, approved_url}

-- ---- what is registered

-- the kept object with the URL of its number; null would stand for one that holds a float, and none is kept
abbrev pub object_data : KeptObject → ℕ → Data
object_data kept n = unwrap_or (without_float (with_url_data kept n)) null

abbrev pub registered_data : Registered → Data
registered_data row = object_data row.object.now row.number

-- ---- requests

abbrev pub status_word : Status → List ℕ
status_word Initial = codes "initial"
status_word Approved = codes "approved"
status_word Rejected = codes "rejected"

-- what was approved: what it was approved as, its status and its URL
abbrev pub approved_data : List ℕ → List ℕ → Data
approved_data approved url =
    object (member (codes "approvedUrl") (string approved)
    (member (codes "status") (string (status_word Approved))
    (member (codes "url") (string url) no_members)))

-- the object of a request in its state: what it was approved as is shown where it is approved and that is known
abbrev pub request_in : Status → Option ℕ → PendingRequest → Data
request_in Approved (Some number) request =
    approved_data (approved_url request.kind number) (request_url request.number)
request_in Approved None request = outcome_data (status_word Approved) (request_url request.number)
request_in Initial approved request = outcome_data (status_word Initial) (request_url request.number)
request_in Rejected approved request = outcome_data (status_word Rejected) (request_url request.number)

abbrev pub request_data : PendingRequest → Data
request_data request = request_in request.status request.approved request
