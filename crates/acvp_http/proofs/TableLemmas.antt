-- Each path's text gets to its pattern in the router.
use Rattle.std.proofs.Common.{◌≡◌, ◌++◌, ℕ, List, [], ◌∷◌, true, Option, Some, None, codes, refl, decimal, append-nil}
use Rattle.std.proofs.Common.{ap, sym, ◌∙◌}
use Rattle.std.specs.Prelude.{option_map, IfSome}
use Rattle.matchit.specs.Rows.{RowsOf}
use Rattle.std.specs.Str.{IsUtf8}
use Rattle.std.proofs.lemmas.Str.{IsUtf8-from_ascii}
use Rattle.matchit.specs.Route.{scan}
use Rattle.matchit.specs.Seek.{first}
use Rattle.matchit.specs.Router.{RouteOf}
use Rattle.acvp_http.specs.declared.path.Path.{Path}
use Rattle.acvp_http.specs.declared.path.Path.TheVariants.{Login, Account, Algorithms, Algorithm, Sessions, Session}
use Rattle.acvp_http.specs.declared.path.Path.TheVariants.{SessionResults, Sets, Set, SetResults, Expected, Reviewers}
use Rattle.acvp_http.specs.declared.path.Path.TheVariants.{Reviewer, Vendors, Vendor, Modules, Module, Environments}
use Rattle.acvp_http.specs.declared.path.Path.TheVariants.{Environment, Requests, Request}
use Rattle.acvp_http.specs.Paths.{Fits, written, IsPath, Names}
use Rattle.acvp_http.specs.Private.Rows.{pattern_of, HasPattern, rows, general_routes, session_routes, registry_routes}
use Rattle.acvp_http.proofs.WalkLemmas.{AreSmall, is_plain, is_ascii, reach, filled, filled-ascii, found-filled}
use Rattle.acvp_http.proofs.WalkLemmas.{none_small, one_small, two_small}

-- the tokens of a pattern
abbrev tokens : Path → List ℕ
tokens Login = codes "/acvp/v1/login"
tokens Account = codes "/acvp/v1/account"
tokens Algorithms = codes "/acvp/v1/algorithms"
tokens (Algorithm n) = codes "/acvp/v1/algorithms/" ++ 256 ∷ []
tokens Sessions = codes "/acvp/v1/testSessions"
tokens (Session n) = codes "/acvp/v1/testSessions/" ++ 256 ∷ []
tokens (SessionResults n) = codes "/acvp/v1/testSessions/" ++ 256 ∷ [] ++ codes "/results"
tokens (Sets n) = codes "/acvp/v1/testSessions/" ++ 256 ∷ [] ++ codes "/vectorSets"
tokens (Set n m) = codes "/acvp/v1/testSessions/" ++ 256 ∷ [] ++ codes "/vectorSets/" ++ 256 ∷ []
tokens (SetResults n m) = codes "/acvp/v1/testSessions/" ++ 256 ∷ [] ++ codes "/vectorSets/" ++ 256 ∷ []
    ++ codes "/results"
tokens (Expected n m) = codes "/acvp/v1/testSessions/" ++ 256 ∷ [] ++ codes "/vectorSets/" ++ 256 ∷ []
    ++ codes "/expected"
tokens (Reviewers n) = codes "/acvp/v1/testSessions/" ++ 256 ∷ [] ++ codes "/reviewers"
tokens (Reviewer n m) = codes "/acvp/v1/testSessions/" ++ 256 ∷ [] ++ codes "/reviewers/" ++ 256 ∷ []
tokens Vendors = codes "/acvp/v1/vendors"
tokens (Vendor n) = codes "/acvp/v1/vendors/" ++ 256 ∷ []
tokens Modules = codes "/acvp/v1/modules"
tokens (Module n) = codes "/acvp/v1/modules/" ++ 256 ∷ []
tokens Environments = codes "/acvp/v1/oes"
tokens (Environment n) = codes "/acvp/v1/oes/" ++ 256 ∷ []
tokens Requests = codes "/acvp/v1/requests"
tokens (Request n) = codes "/acvp/v1/requests/" ++ 256 ∷ []

tests : (pattern : Path) → (is_plain (tokens pattern) rows ≡ true)
    × (option_map (λ (route : RouteOf Path). route.value) (reach (tokens pattern) rows) ≡ Some (pattern_of pattern))
    × (is_ascii (tokens pattern) ≡ true)
unfolding rows general_routes session_routes registry_routes scan
tests Login = (refl, refl, refl)
tests pattern = (refl, refl, refl)

-- a path is written as its pattern's tokens with its numbers filled in
record IsFilled (path : Path) : Type 0 where
  numbers : List ℕ
  small : AreSmall numbers
  same : written path ≡ filled (tokens path) numbers

fills : (path : Path) → Fits path → IsFilled path
fills (Algorithm n) fits =
    record {
      numbers = n ∷ [];
      small = one_small n fits;
      same =
          ap (λ w. codes "/acvp/v1/algorithms/" ++ w) (sym (append-nil (decimal n)));
    }
fills (Session s) fits = record {
  numbers = s ∷ [];
  small = one_small s fits;
  same =
      ap (λ w. codes "/acvp/v1/testSessions/" ++ w) (sym (append-nil (decimal s)));
}
fills (SessionResults s) fits = record { numbers = s ∷ []; small = one_small s fits; same = refl }
fills (Sets s) fits = record { numbers = s ∷ []; small = one_small s fits; same = refl }
fills (Set s v) fits = record {
  numbers = s ∷ v ∷ [];
  small = two_small s v fits.0 fits.1;
  same =
      ap (λ w. codes "/acvp/v1/testSessions/" ++ (decimal s ++ (codes "/vectorSets/" ++ w)))
      (sym (append-nil (decimal v)));
}
fills (SetResults s v) fits = record { numbers = s ∷ v ∷ []; small = two_small s v fits.0 fits.1; same = refl }
fills (Expected s v) fits = record { numbers = s ∷ v ∷ []; small = two_small s v fits.0 fits.1; same = refl }
fills (Reviewers s) fits = record { numbers = s ∷ []; small = one_small s fits; same = refl }
fills (Reviewer s n) fits =
    record {
      numbers = s ∷ n ∷ [];
      small = two_small s n fits.0 fits.1;
      same =
          ap (λ w. codes "/acvp/v1/testSessions/" ++ (decimal s ++ (codes "/reviewers/" ++ w)))
          (sym (append-nil (decimal n)));
    }
fills (Vendor n) fits = record {
  numbers = n ∷ [];
  small = one_small n fits;
  same =
      ap (λ w. codes "/acvp/v1/vendors/" ++ w) (sym (append-nil (decimal n)));
}
fills (Module n) fits = record {
  numbers = n ∷ [];
  small = one_small n fits;
  same =
      ap (λ w. codes "/acvp/v1/modules/" ++ w) (sym (append-nil (decimal n)));
}
fills (Environment n) fits =
    record {
      numbers = n ∷ [];
      small = one_small n fits;
      same =
          ap (λ w. codes "/acvp/v1/oes/" ++ w) (sym (append-nil (decimal n)));
    }
fills (Request n) fits = record {
  numbers = n ∷ [];
  small = one_small n fits;
  same =
      ap (λ w. codes "/acvp/v1/requests/" ++ w) (sym (append-nil (decimal n)));
}
fills _ fits = record { numbers = []; small = none_small; same = refl }

-- what the router has for a path
pub finds : (path : Path) → Fits path → option_map (λ (route : RouteOf Path). route.value) (first rows (written path))
    ≡ Some (pattern_of path)
finds path fits =
    let f = fills path fits in
    let t = tests path in
    found-filled (λ (route : RouteOf Path). route.value) (tokens path) f.numbers rows (written path)
    (pattern_of path) f.small f.same t.0 t.1

-- a path is text
pub written-utf8 : (path : Path) → Fits path → IsUtf8 (written path)
written-utf8 path fits =
    let f = fills path fits in
    rw f.same (IsUtf8-from_ascii _ (filled-ascii (tokens path) f.numbers f.small (tests path).2))

-- a path has its pattern
pub HasPattern-written : (path : Path) → Fits path → HasPattern (pattern_of path) (written path)
HasPattern-written (Algorithm n) fits = (n, (fits, refl))
HasPattern-written (Session s) fits = (s, (fits, refl))
HasPattern-written (SessionResults s) fits = (s, (fits, refl))
HasPattern-written (Sets s) fits = (s, (fits, refl))
HasPattern-written (Set s v) fits = (s, v, (fits, refl))
HasPattern-written (SetResults s v) fits = (s, v, (fits, refl))
HasPattern-written (Expected s v) fits = (s, v, (fits, refl))
HasPattern-written (Reviewers s) fits = (s, (fits, refl))
HasPattern-written (Reviewer s n) fits = (s, n, (fits, refl))
HasPattern-written (Vendor n) fits = (n, (fits, refl))
HasPattern-written (Module n) fits = (n, (fits, refl))
HasPattern-written (Environment n) fits = (n, (fits, refl))
HasPattern-written (Request n) fits = (n, (fits, refl))
HasPattern-written _ fits = refl

-- the pattern that the router has for a path
pub has-row : (path : Path) (text utf8 : List ℕ) (router : RowsOf (RouteOf Path)) (r : Option Path) → router ≡ rows
    → utf8 ≡ text → r ≡ option_map (λ (route : RouteOf Path). route.value) (first router utf8) → IsPath text path
    → r ≡ Some (pattern_of path)
has-row path text utf8 router r kept same found is =
    let at : utf8 ≡ written path = same ∙ is.1 in
    found ∙ (rw (kept, at) (finds path is.0))

-- what is read by the pattern that the router has is the path
pub path-is : (text : List ℕ) (pattern : Path) (r : Option Path) → (r ≡ None → HasPattern pattern text → ⊥)
    → IfSome r (IsPath text) → ((path : Path) → IsPath text path → Some pattern ≡ Some (pattern_of path)) →
    Names text r
path-is text pattern None none some row = λ path is.
    let same : pattern ≡ pattern_of path = (let both : Some pattern ≡ Some (pattern_of path) = row path is in cc) in
    none refl (rw (same, is.1) (HasPattern-written path is.0))
path-is text pattern (Some path) none some row = some
