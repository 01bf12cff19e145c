-- The registries of an account: its vendors, modules and operational environments, and the requests for them.
use Rattle.std.specs.Prelude.{ℕ, List, length, map, ◌==◌, if◌then◌else◌, Option, Some, None}
use Rattle.std.specs.Prelude.{option_and_then, is_some}
use Rattle.acvp_json.specs.Data.{Data}
use Rattle.acvp_json.specs.Page.{page_data}
use Rattle.acvp_json.specs.Registry.{object_data, request_data}
use Rattle.acvp_json.specs.Urls.{list_path}
use Rattle.acvp_json.specs.declared.page.Page.{Page}
use Rattle.acvp_policy.specs.declared.action.Action.{Action}
use Rattle.acvp_policy.specs.declared.action.Action.TheVariants as action
use Rattle.acvp_policy.specs.declared.facts.RowSubject.{RowSubject}
use Rattle.acvp_policy.specs.declared.facts.Subject.{Subject}
use Rattle.acvp_policy.specs.declared.facts.Subject.TheVariants as subject
use Rattle.acvp_registry.specs.declared.kind.Kind.{Kind}
use Rattle.acvp_registry.specs.declared.kind.Kind.TheVariants.{Vendor, Module, Environment, Certification}
use Rattle.acvp_registry.specs.declared.request.PendingRequest.{PendingRequest}
use Rattle.acvp_registry.specs.declared.request.Status.{Status}
use Rattle.acvp_registry.specs.declared.request.Status.TheVariants as status
use Rattle.acvp_tables.specs.Content.{object_at, objects_of, page, request_at, request_summary, requests_of}
use Rattle.acvp_tables.specs.State.{given_number}
use Rattle.acvp_tables.specs.declared.rows.ObjectRow.{ObjectRow}
use Rattle.acvp_tables.specs.declared.rows.RequestRow.{RequestRow}
use Rattle.acvp_tables.specs.declared.rows.RequestStatus.{RequestStatus}
use Rattle.acvp_tables.specs.declared.rows.RequestStatus.TheVariants as decided
use Rattle.acvp_tables.specs.declared.summary.RequestPurpose.{RequestPurpose}
use Rattle.acvp_tables.specs.declared.summary.RequestPurpose.TheVariants as asks
use Rattle.acvp_tables.specs.declared.summary.RequestSummary.{RequestSummary}
use Rattle.acvp_desk.specs.declared.found.ObjectsPage.{ObjectsPage}
use Rattle.acvp_desk.specs.declared.found.RegistryPlace.{RegistryPlace}
use Rattle.acvp_desk.specs.declared.found.RegistryPlace.TheVariants as found
use Rattle.acvp_desk.specs.declared.found.RequestsPage.{RequestsPage}
use Rattle.acvp_desk.specs.declared.wish.Registry.{Registry}
use Rattle.acvp_desk.specs.declared.wish.Registry.TheVariants as registry
use Rattle.acvp_desk.specs.declared.wish.RegistryWish.{RegistryWish}
use Rattle.acvp_desk.specs.declared.wish.RegistryWish.TheVariants as on

-- the kind of what a registry holds
abbrev pub kind_of : Registry → Kind
kind_of registry.Vendors = Vendor
kind_of registry.Modules = Module
kind_of registry.Environments = Environment

-- ---- the actions

abbrev pub read_action : Registry → Action
read_action registry.Vendors = action.ReadVendor
read_action registry.Modules = action.ReadModule
read_action registry.Environments = action.ReadEnvironment

abbrev pub new_action : Registry → Action
new_action registry.Vendors = action.NewVendor
new_action registry.Modules = action.NewModule
new_action registry.Environments = action.NewEnvironment

abbrev pub list_action : Registry → Action
list_action registry.Vendors = action.ListVendors
list_action registry.Modules = action.ListModules
list_action registry.Environments = action.ListEnvironments

abbrev pub action_on_registry : RegistryWish → Action
action_on_registry (on.Read of n) = read_action of
action_on_registry (on.New of) = new_action of
action_on_registry (on.List of page) = list_action of
action_on_registry (on.ReadRequest n) = action.ReadRequest
action_on_registry (on.ListRequests page) = action.ListRequests

-- ---- what is an account's

-- a row is looked up in an account: one of another account isn't there
abbrev pub own_object : Kind → ℕ → ℕ → List ObjectRow → Option ObjectRow
own_object kind u n objects =
    option_and_then (λ (row : ObjectRow). if row.account == u then Some row else None) (object_at kind n objects)

abbrev pub own_request : ℕ → ℕ → List RequestRow → Option RequestRow
own_request u n requests =
    option_and_then (λ (row : RequestRow). if row.account == u then Some row else None) (request_at n requests)

-- ---- what a path names

abbrev pub row_subject : Registry → RowSubject → Subject
row_subject registry.Vendors row = subject.Vendor row
row_subject registry.Modules row = subject.Module row
row_subject registry.Environments row = subject.Environment row

-- where the row that it names is found, or isn't
abbrev pub registry_subject : RegistryPlace → Subject
registry_subject (found.Object of n row) = row_subject of (record { number = n; found = is_some row })
registry_subject (found.Request n row) = subject.Request (record { number = n; found = is_some row })
registry_subject _ = subject.Account

-- ---- what is read of the records

-- how many objects of a kind an account has, and those of a page
abbrev pub objects_page : Kind → ℕ → List ObjectRow → Page → ObjectsPage
objects_page kind u objects at = record {
  page = at;
  total = length (objects_of kind u objects);
  objects = page at.offset at.limit (objects_of kind u objects);
}

-- how many requests, and those of a page
abbrev pub requests_page : ℕ → List RequestRow → Page → RequestsPage
requests_page u requests at = record {
  page = at;
  total = length (requests_of u requests);
  requests = page at.offset at.limit (map request_summary (requests_of u requests));
}

-- ---- what is shown

abbrev pub object_shown : ObjectRow → Data
object_shown row = object_data row.object row.number

-- what a request asks for is of a kind
abbrev pub kind_asked : RequestPurpose → Kind
kind_asked (asks.Registration kind) = kind
kind_asked (asks.Certification c) = Certification

abbrev pub status_shown : RequestStatus → Status
status_shown decided.Initial = status.Initial
status_shown (decided.Approved n) = status.Approved
status_shown decided.Rejected = status.Rejected

abbrev pub request_shown : RequestSummary → PendingRequest
request_shown row = record {
  number = row.number;
  kind = kind_asked row.purpose;
  status = status_shown row.status;
  approved = given_number row.status;
}

abbrev pub request_reply : RequestSummary → Data
request_reply row = request_data (request_shown row)

abbrev pub objects_reply : Kind → ObjectsPage → Data
objects_reply kind found = page_data object_shown (list_path kind) found.page found.total found.objects

abbrev pub requests_reply : RequestsPage → Data
requests_reply found =
    page_data request_data (list_path Certification) found.page found.total (map request_shown found.requests)
