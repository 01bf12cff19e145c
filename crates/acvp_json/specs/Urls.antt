-- The URLs of what replies speak of.
use Rattle.std.specs.Prelude.{ℕ, ◌/◌, List, ◌++◌, codes, decimal, unwrap_or}
use Rattle.acvp_registry.specs.declared.kind.Kind.{Kind}
use Rattle.acvp_registry.specs.declared.kind.Kind.TheVariants.{Vendor, Module, Environment, Certification}
use Rattle.acvp_registry.specs.Url.{url_of}

abbrev pub session_url : ℕ → List ℕ
session_url session = codes "/acvp/v1/testSessions/" ++ decimal session

-- a vector set's, whose number is a hundred times its session's and its place
abbrev pub set_url : ℕ → List ℕ
set_url vs = session_url (vs / 100) ++ codes "/vectorSets/" ++ decimal vs

-- a vector set's results
abbrev pub results_url : ℕ → List ℕ
results_url vs = set_url vs ++ codes "/results"

abbrev pub request_url : ℕ → List ℕ
request_url request = codes "/acvp/v1/requests/" ++ decimal request

-- what an approved request leads to: the object of its kind, or the session that is certified
abbrev pub approved_url : Kind → ℕ → List ℕ
approved_url kind number = unwrap_or (url_of kind number) (session_url number)

-- the list of an account's objects of a kind, certifications being requests alone
abbrev pub list_path : Kind → List ℕ
list_path Vendor = codes "/acvp/v1/vendors"
list_path Module = codes "/acvp/v1/modules"
list_path Environment = codes "/acvp/v1/oes"
list_path Certification = codes "/acvp/v1/requests"
