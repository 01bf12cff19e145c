-- Bytes are one path at most.
use Rattle.std.proofs.Common.{◌≡◌, ℕ, List, Option, Some, None, Result, codes, refl, ap, sym, ◌∙◌}
use Rattle.std.specs.Prelude.{option_map}
use Rattle.matchit.specs.Seek.{first}
use Rattle.matchit.specs.Router.{RouteOf}
use Rattle.acvp_policy.specs.declared.rule.Rule.{Rule}
use Rattle.acvp_http.specs.declared.path.Path.{Path}
use Rattle.acvp_http.specs.declared.path.Path.TheVariants.{Login, Account, Algorithms, Algorithm, Sessions, Session}
use Rattle.acvp_http.specs.declared.path.Path.TheVariants.{SessionResults, Sets, Set, SetResults, Expected, Reviewers}
use Rattle.acvp_http.specs.declared.path.Path.TheVariants.{Reviewer, Vendors, Vendor, Modules, Module, Environments}
use Rattle.acvp_http.specs.declared.path.Path.TheVariants.{Environment, Requests, Request}
use Rattle.acvp_desk.specs.declared.request.Ask.{Ask}
use Rattle.acvp_http.specs.Paths.{Fits, written, IsPath, Names, Finds, method_on}
use Rattle.acvp_http.specs.Target.{path_of, query_of}
use Rattle.acvp_http.specs.Private.Rows.{pattern_of, rows}
use Rattle.acvp_http.proofs.TableLemmas.{finds}
use Rattle.acvp_http.proofs.NumberLemmas.{last-one, inner-one, both-last-one, both-inner-one}

-- two paths of one pattern that are written alike
written-one : (a b : Path) → Fits a → Fits b → pattern_of a ≡ pattern_of b → written a ≡ written b → a ≡ b
written-one (Algorithm n) (Algorithm n') fits fits' same is =
    ap Algorithm (last-one (codes "/acvp/v1/algorithms/") n n' fits fits' is)
written-one (Session s) (Session s') fits fits' same is =
    ap Session (last-one (codes "/acvp/v1/testSessions/") s s' fits fits' is)
written-one (SessionResults s) (SessionResults s') fits fits' same is =
    ap SessionResults (inner-one (codes "/acvp/v1/testSessions/") (codes "/results") s s' fits fits' is)
written-one (Sets s) (Sets s') fits fits' same is =
    ap Sets (inner-one (codes "/acvp/v1/testSessions/") (codes "/vectorSets") s s' fits fits' is)
written-one (Set s v) (Set s' v') fits fits' same is = let both =
    both-last-one (codes "/acvp/v1/testSessions/") (codes "vectorSets/") s v s' v' fits fits' is in cc
written-one (SetResults s v) (SetResults s' v') fits fits' same is = let both =
    both-inner-one (codes "/acvp/v1/testSessions/") (codes "vectorSets/") (codes "/results") s v s' v' fits fits' is in
    cc
written-one (Expected s v) (Expected s' v') fits fits' same is = let both =
    both-inner-one (codes "/acvp/v1/testSessions/") (codes "vectorSets/") (codes "/expected") s v s' v' fits fits' is in
    cc
written-one (Reviewers s) (Reviewers s') fits fits' same is =
    ap Reviewers (inner-one (codes "/acvp/v1/testSessions/") (codes "/reviewers") s s' fits fits' is)
written-one (Reviewer s n) (Reviewer s' n') fits fits' same is = let both =
    both-last-one (codes "/acvp/v1/testSessions/") (codes "reviewers/") s n s' n' fits fits' is in cc
written-one (Vendor n) (Vendor n') fits fits' same is =
    ap Vendor (last-one (codes "/acvp/v1/vendors/") n n' fits fits' is)
written-one (Module n) (Module n') fits fits' same is =
    ap Module (last-one (codes "/acvp/v1/modules/") n n' fits fits' is)
written-one (Environment n) (Environment n') fits fits' same is =
    ap Environment (last-one (codes "/acvp/v1/oes/") n n' fits fits' is)
written-one (Request n) (Request n') fits fits' same is =
    ap Request (last-one (codes "/acvp/v1/requests/") n n' fits fits' is)
written-one Login Login fits fits' same is = refl
written-one Account Account fits fits' same is = refl
written-one Algorithms Algorithms fits fits' same is = refl
written-one Sessions Sessions fits fits' same is = refl
written-one Vendors Vendors fits fits' same is = refl
written-one Modules Modules fits fits' same is = refl
written-one Environments Environments fits fits' same is = refl
written-one Requests Requests fits fits' same is = refl
written-one a b fits fits' same is = cc

-- a text is one path at most
pub IsPath-one : (text : List ℕ) (a b : Path) → IsPath text a → IsPath text b → a ≡ b
IsPath-one text a b is other =
    let same : written a ≡ written b = sym is.1 ∙ other.1 in
    let found : Some (pattern_of a) ≡ Some (pattern_of b) =
    sym (finds a is.0) ∙ (ap (λ w. option_map (λ (route : RouteOf Path). route.value) (first rows w)) same
    ∙ finds b other.0) in
    let pattern : pattern_of a ≡ pattern_of b = cc in
    written-one a b is.0 other.0 pattern same

-- bytes name one path, or none
pub Names-one : (text : List ℕ) (a b : Option Path) → Names text a → Names text b → a ≡ b
Names-one text None None none other = refl
Names-one text None (Some b) none is = absurd (none b is)
Names-one text (Some a) None is none = absurd (none a is)
Names-one text (Some a) (Some b) is other = ap Some (IsPath-one text a b is other)

-- a method finds one thing
pub Finds-one : (method target : List ℕ) (a b : Result Ask Rule) → Finds method target a → Finds method target b → a ≡ b
Finds-one method target a b x y =
    x.2 ∙ (ap (λ named. method_on method (query_of target) named) (Names-one (path_of target) x.0 y.0 x.1 y.1)
    ∙ sym y.2)
