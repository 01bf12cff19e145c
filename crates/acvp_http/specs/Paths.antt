-- The paths of the protocol, and the methods of each.
use Rattle.std.specs.Prelude.{◌≡◌, ◌<◌, ◌^◌, ◌++◌, ℕ, List, [], ◌∷◌, codes, decimal, find, Option, Some, None}
use Rattle.std.specs.Prelude.{option_map, Result, Ok, Err}
use Rattle.std.specs.List.{join_by}
use Rattle.std.specs.Str.{bytes_eq}
use Rattle.acvp_policy.specs.declared.rule.Rule.{Rule}
use Rattle.acvp_policy.specs.declared.rule.Rule.TheVariants.{NoRoute, NoMethod}
use Rattle.acvp_desk.specs.Pages.{page_of}
use Rattle.acvp_desk.specs.declared.request.Ask.{Ask}
use Rattle.acvp_desk.specs.declared.request.Ask.TheVariants as ask
use Rattle.acvp_desk.specs.declared.wish.Wish.TheVariants as wish
use Rattle.acvp_desk.specs.declared.wish.AccountWish.TheVariants as on_account
use Rattle.acvp_desk.specs.declared.wish.SessionWish.TheVariants as on_session
use Rattle.acvp_desk.specs.declared.wish.SetWish.TheVariants as on_set
use Rattle.acvp_desk.specs.declared.wish.Registry.{Registry}
use Rattle.acvp_desk.specs.declared.wish.Registry.TheVariants as registry
use Rattle.acvp_desk.specs.declared.wish.RegistryWish.{RegistryWish}
use Rattle.acvp_desk.specs.declared.wish.RegistryWish.TheVariants as its
use Rattle.acvp_http.specs.Target.{path_of, query_of}
use Rattle.acvp_http.specs.declared.path.Path.{Path}
use Rattle.acvp_http.specs.declared.path.Path.TheVariants.{Login, Account, Algorithms, Algorithm, Sessions, Session}
use Rattle.acvp_http.specs.declared.path.Path.TheVariants.{SessionResults, Sets, Set, SetResults, Expected, Reviewers}
use Rattle.acvp_http.specs.declared.path.Path.TheVariants.{Reviewer, Vendors, Vendor, Modules, Module, Environments}
use Rattle.acvp_http.specs.declared.path.Path.TheVariants.{Environment, Requests, Request}

-- what a path is written as: its numbers stand in plain decimal
abbrev pub written : Path → List ℕ
written Login = codes "/acvp/v1/login"
written Account = codes "/acvp/v1/account"
written Algorithms = codes "/acvp/v1/algorithms"
written (Algorithm n) = codes "/acvp/v1/algorithms/" ++ decimal n
written Sessions = codes "/acvp/v1/testSessions"
written (Session s) = codes "/acvp/v1/testSessions/" ++ decimal s
written (SessionResults s) = codes "/acvp/v1/testSessions/" ++ (decimal s ++ codes "/results")
written (Sets s) = codes "/acvp/v1/testSessions/" ++ (decimal s ++ codes "/vectorSets")
written (Set s v) = codes "/acvp/v1/testSessions/" ++ (decimal s ++ (codes "/vectorSets/" ++ decimal v))
written (SetResults s v) =
    codes "/acvp/v1/testSessions/" ++ (decimal s ++ (codes "/vectorSets/" ++ (decimal v ++ codes "/results")))
written (Expected s v) =
    codes "/acvp/v1/testSessions/" ++ (decimal s ++ (codes "/vectorSets/" ++ (decimal v ++ codes "/expected")))
written (Reviewers s) = codes "/acvp/v1/testSessions/" ++ (decimal s ++ codes "/reviewers")
written (Reviewer s n) = codes "/acvp/v1/testSessions/" ++ (decimal s ++ (codes "/reviewers/" ++ decimal n))
written Vendors = codes "/acvp/v1/vendors"
written (Vendor n) = codes "/acvp/v1/vendors/" ++ decimal n
written Modules = codes "/acvp/v1/modules"
written (Module n) = codes "/acvp/v1/modules/" ++ decimal n
written Environments = codes "/acvp/v1/oes"
written (Environment n) = codes "/acvp/v1/oes/" ++ decimal n
written Requests = codes "/acvp/v1/requests"
written (Request n) = codes "/acvp/v1/requests/" ++ decimal n

-- each number has at most 19 digits
abbrev pub Fits : Path → Type 0
Fits Login = Unit {0}
Fits Account = Unit {0}
Fits Algorithms = Unit {0}
Fits (Algorithm n) = n < 10 ^ 19
Fits Sessions = Unit {0}
Fits (Session s) = s < 10 ^ 19
Fits (SessionResults s) = s < 10 ^ 19
Fits (Sets s) = s < 10 ^ 19
Fits (Set s v) = (s < 10 ^ 19) × (v < 10 ^ 19)
Fits (SetResults s v) = (s < 10 ^ 19) × (v < 10 ^ 19)
Fits (Expected s v) = (s < 10 ^ 19) × (v < 10 ^ 19)
Fits (Reviewers s) = s < 10 ^ 19
Fits (Reviewer s n) = (s < 10 ^ 19) × (n < 10 ^ 19)
Fits Vendors = Unit {0}
Fits (Vendor n) = n < 10 ^ 19
Fits Modules = Unit {0}
Fits (Module n) = n < 10 ^ 19
Fits Environments = Unit {0}
Fits (Environment n) = n < 10 ^ 19
Fits Requests = Unit {0}
Fits (Request n) = n < 10 ^ 19

-- these bytes are the path
abbrev pub IsPath : List ℕ → Path → Type 0
IsPath text path = Fits path × (text ≡ written path)

-- the path that these bytes are, or none
abbrev pub Names : List ℕ → Option Path → Type 0
Names text None = (path : Path) → IsPath text path → ⊥
Names text (Some path) = IsPath text path

-- that something is asked of the registries and requests of the account that acts
abbrev pub on_registry : RegistryWish → Ask
on_registry it = ask.Caller (wish.Registry it)

-- what a registry holds is listed, and objects are registered in it
abbrev pub registry_methods : Registry → List ℕ → List (List ℕ × Ask)
registry_methods of query =
    (codes "GET", on_registry (its.List of (page_of query)))
    ∷ (codes "POST", on_registry (its.New of)) ∷ []

-- the methods of a path, each with what it asks beside a query
abbrev pub methods_of : Path → List ℕ → List (List ℕ × Ask)
methods_of Login query = (codes "POST", ask.Login) ∷ []
methods_of Account query = (codes "GET", ask.Caller (wish.Account on_account.Read)) ∷ []
methods_of Algorithms query = (codes "GET", ask.Caller (wish.Account on_account.ListAlgorithms)) ∷ []
methods_of (Algorithm n) query = (codes "GET", ask.Caller (wish.Algorithm n)) ∷ []
methods_of Sessions query =
    (codes "GET", ask.Caller (wish.ListSessions (page_of query)))
    ∷ (codes "POST", ask.Caller wish.NewSession) ∷ []
methods_of (Session s) query =
    (codes "GET", ask.Caller (wish.Session s on_session.Read))
    ∷ (codes "PUT", ask.Caller (wish.Certify s))
    ∷ (codes "DELETE", ask.Caller (wish.Session s on_session.Cancel)) ∷ []
methods_of (SessionResults s) query = (codes "GET", ask.Caller (wish.Session s on_session.Results)) ∷ []
methods_of (Sets s) query = (codes "GET", ask.Caller (wish.Session s on_session.ListSets)) ∷ []
methods_of (Set s v) query =
    (codes "GET", ask.Caller (wish.Set s v on_set.Read))
    ∷ (codes "DELETE", ask.Caller (wish.CancelSet s v)) ∷ []
methods_of (SetResults s v) query =
    (codes "GET", ask.Caller (wish.Set s v on_set.Results))
    ∷ (codes "POST", ask.Caller (wish.Set s v on_set.Submit))
    ∷ (codes "PUT", ask.Caller (wish.Set s v on_set.Resubmit)) ∷ []
methods_of (Expected s v) query = (codes "GET", ask.Caller (wish.Set s v on_set.Expected)) ∷ []
methods_of (Reviewers s) query =
    (codes "GET", ask.Caller (wish.Session s on_session.ListReviewers))
    ∷ (codes "POST", ask.Caller (wish.Session s on_session.AddReviewer)) ∷ []
methods_of (Reviewer s n) query = (codes "DELETE", ask.Caller (wish.Reviewer s n)) ∷ []
methods_of Vendors query = registry_methods registry.Vendors query
methods_of (Vendor n) query = (codes "GET", on_registry (its.Read registry.Vendors n)) ∷ []
methods_of Modules query = registry_methods registry.Modules query
methods_of (Module n) query = (codes "GET", on_registry (its.Read registry.Modules n)) ∷ []
methods_of Environments query = registry_methods registry.Environments query
methods_of (Environment n) query = (codes "GET", on_registry (its.Read registry.Environments n)) ∷ []
methods_of Requests query = (codes "GET", on_registry (its.ListRequests (page_of query))) ∷ []
methods_of (Request n) query = (codes "GET", on_registry (its.ReadRequest n)) ∷ []

-- what a method out of these asks, where it is one
abbrev pub chosen : List ℕ → List (List ℕ × Ask) → Option Ask
chosen method methods = option_map (λ m. m.1) (find (λ m. bytes_eq method m.0) methods)

-- what a method asks on a path, where it is one of its methods
abbrev pub asked_on : List ℕ → List ℕ → Path → Option Ask
asked_on method query path = chosen method (methods_of path query)

-- the methods of a path, as the `Allow` field lists them (RFC 9110, section 10.2.1); no query changes them
abbrev pub allowed_on : Path → List ℕ
allowed_on path = join_by (λ m. m.0) (codes ", ") (methods_of path [])

-- what was found, or the rule
abbrev pub some_or : Option Ask → Rule → Result Ask Rule
some_or None rule = Err rule
some_or (Some asked) rule = Ok asked

-- a method on a path of the table, or on none
abbrev pub method_on : List ℕ → List ℕ → Option Path → Result Ask Rule
method_on method query None = Err NoRoute
method_on method query (Some path) = some_or (asked_on method query path) NoMethod

-- what a method finds on a target: what it asks, or the rule that it breaks
abbrev pub Finds : List ℕ → List ℕ → Result Ask Rule → Type 0
Finds method target found =
    (named : Option Path) × Names (path_of target) named × (found ≡ method_on method (query_of target) named)
