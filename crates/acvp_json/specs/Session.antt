-- The objects of a test session.
use Rattle.std.specs.Prelude.{ℕ, ◌+◌, List, codes, Bool}
use Rattle.serde_json.specs.Data.{Data, boolean, string, object, no_members, member}
use Rattle.acvp_json.specs.declared.session.Session.{Session}
use Rattle.acvp_json.specs.declared.session.SessionStatus.{SessionStatus}
use Rattle.acvp_json.specs.declared.session.SessionStatus.TheVariants.{Open, Initial, Approved, Cancelled}
use Rattle.acvp_json.specs.declared.session.SetResult.{SetResult}
use Rattle.acvp_json.specs.SetResults.{disposition_word}
use Rattle.acvp_json.specs.Time.{time_of, lifetime}
use Rattle.acvp_json.specs.Urls.{session_url, set_url}
use Rattle.acvp_json.specs.Values.{array_of}

-- open, or what the last request for its certification comes to, or cancelled
abbrev pub session_word : SessionStatus → List ℕ
session_word Open = codes "open"
session_word Initial = codes "initial"
session_word Approved = codes "approved"
session_word Cancelled = codes "cancelled"

-- the URLs of vector sets
abbrev pub set_urls : List ℕ → Data
set_urls sets = array_of (λ vs. string (set_url vs)) sets

-- a session in a list of them
abbrev pub session_row_data : Session → Data
session_row_data session =
    object (member (codes "createdOn") (string (time_of session.created))
    (member (codes "expiresOn") (string (time_of (session.created + lifetime)))
    (member (codes "isSample") (boolean session.sample)
    (member (codes "status") (string (session_word session.status))
    (member (codes "url") (string (session_url session.number)) no_members)))))

-- a session, whether it has passed, and its vector sets
abbrev pub session_data : Session → Bool → List ℕ → Data
session_data session passed sets =
    object (member (codes "createdOn") (string (time_of session.created))
    (member (codes "expiresOn") (string (time_of (session.created + lifetime)))
    (member (codes "isSample") (boolean session.sample)
    (member (codes "passed") (boolean passed)
    (member (codes "status") (string (session_word session.status))
    (member (codes "url") (string (session_url session.number))
    (member (codes "vectorSetUrls") (set_urls sets) no_members)))))))

-- a new session: a token that is bound to it, its times, and its vector sets
abbrev pub new_session_data : List ℕ → ℕ → ℕ → List ℕ → Data
new_session_data token number created sets =
    object (member (codes "accessToken") (string token)
    (member (codes "createdOn") (string (time_of created))
    (member (codes "expiresOn") (string (time_of (created + lifetime)))
    (member (codes "url") (string (session_url number))
    (member (codes "vectorSetUrls") (set_urls sets) no_members)))))

-- what became of a session, a vector set, its answers or a request, and its URL
abbrev pub outcome_data : List ℕ → List ℕ → Data
outcome_data word url = object (member (codes "status") (string word) (member (codes "url") (string url) no_members))

-- the vector sets of a session
abbrev pub sets_data : List ℕ → Data
sets_data sets = object (member (codes "vectorSetUrls") (set_urls sets) no_members)

-- what a vector set comes to
abbrev pub set_result_data : SetResult → Data
set_result_data set =
    object (member (codes "status") (string (disposition_word set.disposition))
    (member (codes "vectorSetUrl") (string (set_url set.vs)) no_members))

-- whether a session has passed, and what each of its vector sets comes to
abbrev pub session_results_data : Bool → List SetResult → Data
session_results_data passed sets =
    object (member (codes "passed") (boolean passed)
    (member (codes "results") (array_of set_result_data sets) no_members))
