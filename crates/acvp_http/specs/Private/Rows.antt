-- How the router keeps the paths: by a pattern each, in which a name in braces stands for a number.
use Rattle.std.specs.Prelude.{◌≡◌, ◌≢◌, ◌<◌, ◌^◌, ◌++◌, ℕ, List, [], ◌∷◌, Option, Some, None, Result, Ok, Err, codes}
use Rattle.std.specs.Prelude.{decimal}
use Rattle.matchit.specs.Rows.{RowsOf}
use Rattle.matchit.specs.Order.{placed}
use Rattle.matchit.specs.Route.{Scan, parse_route}
use Rattle.matchit.specs.Router.{RouteOf, route_from}
use Rattle.matchit.specs.declared.error.InsertError.{InsertError}
use Rattle.acvp_http.specs.declared.path.Path.{Path}
use Rattle.acvp_http.specs.declared.path.Path.TheVariants.{Login, Account, Algorithms, Algorithm, Sessions, Session}
use Rattle.acvp_http.specs.declared.path.Path.TheVariants.{SessionResults, Sets, Set, SetResults, Expected, Reviewers}
use Rattle.acvp_http.specs.declared.path.Path.TheVariants.{Reviewer, Vendors, Vendor, Modules, Module, Environments}
use Rattle.acvp_http.specs.declared.path.Path.TheVariants.{Environment, Requests, Request}

-- a path with 0 for its numbers, as the router keeps it
abbrev pub pattern_of : Path → Path
pattern_of Login = Login
pattern_of Account = Account
pattern_of Algorithms = Algorithms
pattern_of (Algorithm n) = Algorithm 0
pattern_of Sessions = Sessions
pattern_of (Session n) = Session 0
pattern_of (SessionResults n) = SessionResults 0
pattern_of (Sets n) = Sets 0
pattern_of (Set n m) = Set 0 0
pattern_of (SetResults n m) = SetResults 0 0
pattern_of (Expected n m) = Expected 0 0
pattern_of (Reviewers n) = Reviewers 0
pattern_of (Reviewer n m) = Reviewer 0 0
pattern_of Vendors = Vendors
pattern_of (Vendor n) = Vendor 0
pattern_of Modules = Modules
pattern_of (Module n) = Module 0
pattern_of Environments = Environments
pattern_of (Environment n) = Environment 0
pattern_of Requests = Requests
pattern_of (Request n) = Request 0

-- a number in 1 to 19 digits behind a front, and before a back
abbrev pub IsLast : List ℕ → List ℕ → ℕ → Type 0
IsLast text front n = (n < 10 ^ 19) × (text ≡ front ++ decimal n)

abbrev pub IsInner : List ℕ → List ℕ → List ℕ → ℕ → Type 0
IsInner text front back n = (n < 10 ^ 19) × (text ≡ front ++ (decimal n ++ back))

-- two numbers behind a front with a middle between them, and before a back
abbrev pub AreLast : List ℕ → List ℕ → List ℕ → ℕ → ℕ → Type 0
AreLast text front middle n m = ((n < 10 ^ 19) × (m < 10 ^ 19)) × (text ≡ front ++ (decimal n ++ (middle ++ decimal m)))

abbrev pub AreInner : List ℕ → List ℕ → List ℕ → List ℕ → ℕ → ℕ → Type 0
AreInner text front middle back n m =
    ((n < 10 ^ 19) × (m < 10 ^ 19)) × (text ≡ front ++ (decimal n ++ (middle ++ (decimal m ++ back))))

-- the number in front of a slash, and what stands from there on
abbrev pub IsLeading : List ℕ → Option (ℕ × List ℕ) → Type 0
IsLeading text None = (n : ℕ) (rest : List ℕ) → n < 10 ^ 19 → text ≢ decimal n ++ (47 ∷ rest)
IsLeading text (Some found) =
    (found.0 < 10 ^ 19) × (text ≡ decimal found.0 ++ found.1)
    × ((n : ℕ) (rest : List ℕ) → n < 10 ^ 19 → text ≡ decimal n ++ (47 ∷ rest) → (found.0 ≡ n) × (found.1 ≡ 47 ∷ rest))

-- the text is a path of this pattern, whatever its numbers
abbrev pub HasPattern : Path → List ℕ → Type 0
HasPattern Login text = text ≡ codes "/acvp/v1/login"
HasPattern Account text = text ≡ codes "/acvp/v1/account"
HasPattern Algorithms text = text ≡ codes "/acvp/v1/algorithms"
HasPattern (Algorithm _) text = (n : ℕ) × IsLast text (codes "/acvp/v1/algorithms/") n
HasPattern Sessions text = text ≡ codes "/acvp/v1/testSessions"
HasPattern (Session _) text = (s : ℕ) × IsLast text (codes "/acvp/v1/testSessions/") s
HasPattern (SessionResults _) text = (s : ℕ) × IsInner text (codes "/acvp/v1/testSessions/") (codes "/results") s
HasPattern (Sets _) text = (s : ℕ) × IsInner text (codes "/acvp/v1/testSessions/") (codes "/vectorSets") s
HasPattern (Set _ _) text =
    (s : ℕ) × (v : ℕ) × AreLast text (codes "/acvp/v1/testSessions/") (codes "/vectorSets/") s v
HasPattern (SetResults _ _) text =
    (s : ℕ) × (v : ℕ) × AreInner text (codes "/acvp/v1/testSessions/") (codes "/vectorSets/") (codes "/results") s v
HasPattern (Expected _ _) text =
    (s : ℕ) × (v : ℕ) × AreInner text (codes "/acvp/v1/testSessions/") (codes "/vectorSets/") (codes "/expected") s v
HasPattern (Reviewers _) text = (s : ℕ) × IsInner text (codes "/acvp/v1/testSessions/") (codes "/reviewers") s
HasPattern (Reviewer _ _) text =
    (s : ℕ) × (n : ℕ) × AreLast text (codes "/acvp/v1/testSessions/") (codes "/reviewers/") s n
HasPattern Vendors text = text ≡ codes "/acvp/v1/vendors"
HasPattern (Vendor _) text = (n : ℕ) × IsLast text (codes "/acvp/v1/vendors/") n
HasPattern Modules text = text ≡ codes "/acvp/v1/modules"
HasPattern (Module _) text = (n : ℕ) × IsLast text (codes "/acvp/v1/modules/") n
HasPattern Environments text = text ≡ codes "/acvp/v1/oes"
HasPattern (Environment _) text = (n : ℕ) × IsLast text (codes "/acvp/v1/oes/") n
HasPattern Requests text = text ≡ codes "/acvp/v1/requests"
HasPattern (Request _) text = (n : ℕ) × IsLast text (codes "/acvp/v1/requests/") n

-- the rows with one more route, where it reads well
abbrev pub added : Result Scan InsertError → Path → RowsOf (RouteOf Path) → RowsOf (RouteOf Path)
added (Ok s) value rows = placed (s.pattern, route_from s value) rows
added (Err e) value rows = rows

abbrev pub added_all : List (List ℕ × Path) → RowsOf (RouteOf Path) → RowsOf (RouteOf Path)
added_all [] rows = rows
added_all ((text, value) ∷ rest) rows = added_all rest (added (parse_route text) value rows)

-- the routes that need no other
unfoldable pub general_routes : List (List ℕ × Path)
general_routes =
    (codes "/acvp/v1/login", Login)
    ∷ (codes "/acvp/v1/account", Account)
    ∷ (codes "/acvp/v1/algorithms", Algorithms)
    ∷ (codes "/acvp/v1/algorithms/{number}", Algorithm 0) ∷ []

-- the routes of test sessions
unfoldable pub session_routes : List (List ℕ × Path)
session_routes =
    (codes "/acvp/v1/testSessions", Sessions)
    ∷ (codes "/acvp/v1/testSessions/{session}", Session 0)
    ∷ (codes "/acvp/v1/testSessions/{session}/results", SessionResults 0)
    ∷ (codes "/acvp/v1/testSessions/{session}/vectorSets", Sets 0)
    ∷ (codes "/acvp/v1/testSessions/{session}/vectorSets/{set}", Set 0 0)
    ∷ (codes "/acvp/v1/testSessions/{session}/vectorSets/{set}/results", SetResults 0 0)
    ∷ (codes "/acvp/v1/testSessions/{session}/vectorSets/{set}/expected", Expected 0 0)
    ∷ (codes "/acvp/v1/testSessions/{session}/reviewers", Reviewers 0)
    ∷ (codes "/acvp/v1/testSessions/{session}/reviewers/{number}", Reviewer 0 0) ∷ []

-- the routes of what is registered
unfoldable pub registry_routes : List (List ℕ × Path)
registry_routes =
    (codes "/acvp/v1/vendors", Vendors)
    ∷ (codes "/acvp/v1/vendors/{number}", Vendor 0)
    ∷ (codes "/acvp/v1/modules", Modules)
    ∷ (codes "/acvp/v1/modules/{number}", Module 0)
    ∷ (codes "/acvp/v1/oes", Environments)
    ∷ (codes "/acvp/v1/oes/{number}", Environment 0)
    ∷ (codes "/acvp/v1/requests", Requests)
    ∷ (codes "/acvp/v1/requests/{number}", Request 0) ∷ []

-- the router's rows
unfoldable pub rows : RowsOf (RouteOf Path)
rows = added_all registry_routes (added_all session_routes (added_all general_routes []))
