-- The objects of an account, and of a session's reviewers.
use Rattle.std.specs.Prelude.{ℕ, List, codes}
use Rattle.serde_json.specs.Data.{Data, object, no_members, member}
use Rattle.acvp_registry.specs.declared.counts.Counts.{Counts}
use Rattle.acvp_json.specs.Values.{count, array_of}

-- an account's number, and how many rows it has of each kind
abbrev pub account_data : ℕ → Counts → Data
account_data account counts =
    object (member (codes "account") (count account)
    (member (codes "modules") (count counts.modules)
    (member (codes "oes") (count counts.environments)
    (member (codes "requests") (count counts.requests)
    (member (codes "sessions") (count counts.sessions)
    (member (codes "vendors") (count counts.vendors) no_members))))))

-- the accounts that review a session
abbrev pub reviewers_data : List ℕ → Data
reviewers_data accounts = object (member (codes "reviewers") (array_of count accounts) no_members)
