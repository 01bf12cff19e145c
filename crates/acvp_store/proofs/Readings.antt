-- The queries of a store: their texts, and what these mean whichever way its tables lie.
use Rattle.std.proofs.Common.{◌≡◌, refl, Some, [], ◌∷◌, ◌++◌, List, ℕ, codes, pos}
use Rattle.std.proofs.Common.{false, subst}
use Rattle.sqlite_resolve.specs.Compile.{compiled, first}
use Rattle.sqlite_sql.specs.declared.aggregate.AggregateOp.TheVariants.{Max}
use Rattle.sqlite_tied.specs.Compute.{everything}
use Rattle.acvp_store.specs.Private.Queries.{IsQuery}
use Rattle.acvp_store.proofs.Words.{Binary, case, col, Command, Compare, Created, Eq}
use Rattle.acvp_store.proofs.Words.{Ge, Int, Is, IsAnswer, Layout}
use Rattle.acvp_store.proofs.Words.{Le, lit, Migrated, Ne, Null, op2, Or, overlay, Query, reads_as}
use Rattle.acvp_store.proofs.Words.{reviewer_tree, Row, schema_of, Select, set_tree, Shown, State, Term}
use Rattle.acvp_store.proofs.QueryForms.{equals, first_where, newest, not_between, ordered_by, outside, paging, simple}
use Rattle.acvp_store.proofs.QueryForms.{within}
use Rattle.acvp_store.proofs.Compiled.{as_compiled, IsCompiled}

pub data Reading : Type 0 where
  -- by a number
  AccountAt : Reading
  SessionAt : Reading
  RequestAt : Reading
  StatusAt : Reading
  SetAt : Reading
  CapabilityAt : Reading
  VerdictsAt : Reading
  ObjectAt : Reading
  OwnerAt : Reading
  ReviewerAt : Reading
  -- of a session
  SetsOf : Reading
  ReviewersOf : Reading
  -- pages
  SessionPage : Reading
  RequestPage : Reading
  ObjectPage : Reading
  -- the greatest
  GreatestEpoch : Reading
  NewestSession : Reading
  NewestRequest : Reading
  NewestObject : Reading
  -- all in a range of numbers
  AccountRange : Reading
  SessionRange : Reading
  RequestRange : Reading
  SetRange : Reading
  ObjectRange : Reading
  ReviewerRange : Reading
  -- one outside
  AccountOutside : Reading
  SessionOutside : Reading
  RequestOutside : Reading
  SetOutside : Reading
  ObjectOutside : Reading
  ReviewerOutside : Reading

-- ---- the texts

abbrev from_accounts : List ℕ
from_accounts = codes "SELECT account, secret, enabled, last_step FROM account WHERE account "

abbrev from_sessions : List ℕ
from_sessions =
    codes "SELECT session, account, sample, created, cancelled, certify, live, passed FROM session WHERE session "

abbrev from_requests : List ℕ
from_requests = codes "SELECT request, account, kind, body, status, approved FROM request WHERE request "

abbrev from_objects : List ℕ
from_objects = codes "SELECT kind, number, account, body FROM object WHERE kind = "

abbrev pub reading_text : Reading → List ℕ
reading_text AccountAt = from_accounts ++ codes "= ?1"
reading_text SessionAt = from_sessions ++ codes "= ?1"
reading_text RequestAt = from_requests ++ codes "= ?1"
reading_text StatusAt = codes "SELECT status, approved FROM request WHERE request = ?1"
reading_text SetAt =
    codes "SELECT vs, session, cancelled, answers, verdicts, disposition, epoch FROM vset2 WHERE vs = ?1"
reading_text CapabilityAt = codes "SELECT capability FROM vset2 WHERE vs = ?1"
reading_text VerdictsAt = codes "SELECT verdicts FROM vset2 WHERE vs = ?1"
reading_text ObjectAt = from_objects ++ codes "?1 AND number = ?2"
reading_text OwnerAt = codes "SELECT account FROM object WHERE kind = ?1 AND number = ?2"
reading_text ReviewerAt = codes "SELECT account FROM reviewer WHERE session = ?1 AND account = ?2"
reading_text SetsOf =
    codes "SELECT vs, session, cancelled, answers IS NULL, verdicts, disposition, epoch FROM vset2 " ++
    codes "WHERE vs BETWEEN ?1 AND ?2 AND cancelled <> 1 ORDER BY vs"
reading_text ReviewersOf = codes "SELECT account FROM reviewer WHERE session = ?1 ORDER BY account"
reading_text SessionPage = from_sessions ++ codes "BETWEEN ?1 AND ?2 ORDER BY session LIMIT ?3"
reading_text RequestPage =
    codes "SELECT request, account, kind, CASE WHEN kind = 4 THEN body END, status, approved FROM request " ++
    codes "WHERE request BETWEEN ?1 AND ?2 ORDER BY request LIMIT ?3"
reading_text ObjectPage = from_objects ++ codes "?4 AND number BETWEEN ?1 AND ?2 ORDER BY number LIMIT ?3"
reading_text GreatestEpoch = codes "SELECT MAX(epoch) FROM vset2"
reading_text NewestSession =
    codes "SELECT session FROM session WHERE session BETWEEN ?1 AND ?2 ORDER BY session DESC LIMIT 1"
reading_text NewestRequest =
    codes "SELECT request FROM request WHERE request BETWEEN ?1 AND ?2 ORDER BY request DESC LIMIT 1"
reading_text NewestObject =
    codes "SELECT number FROM object WHERE kind = ?3 AND number BETWEEN ?1 AND ?2 ORDER BY number DESC LIMIT 1"
reading_text AccountRange = from_accounts ++ codes "BETWEEN ?1 AND ?2 ORDER BY account"
reading_text SessionRange = from_sessions ++ codes "BETWEEN ?1 AND ?2 ORDER BY session"
reading_text RequestRange = from_requests ++ codes "BETWEEN ?1 AND ?2 ORDER BY request"
reading_text SetRange =
    codes "SELECT vs, session, capability, cancelled, answers, verdicts, disposition, epoch FROM vset2 " ++
    codes "WHERE vs BETWEEN ?1 AND ?2 ORDER BY vs"
reading_text ObjectRange = from_objects ++ codes "?3 AND number BETWEEN ?1 AND ?2 ORDER BY number"
reading_text ReviewerRange =
    codes "SELECT session, account FROM reviewer WHERE session BETWEEN ?1 AND ?2 ORDER BY session"
reading_text AccountOutside = codes "SELECT account FROM account WHERE account NOT BETWEEN 1 AND 9999 LIMIT 1"
reading_text SessionOutside =
    codes "SELECT session FROM session WHERE session NOT BETWEEN 1000000 AND 9999999999 LIMIT 1"
reading_text RequestOutside =
    codes "SELECT request FROM request WHERE request NOT BETWEEN 1000000 AND 9999999999 LIMIT 1"
reading_text SetOutside = codes "SELECT vs FROM vset2 WHERE vs NOT BETWEEN 100000000 AND 999999999999 LIMIT 1"
reading_text ObjectOutside =
    codes "SELECT number FROM object WHERE kind NOT BETWEEN 1 AND 3 " ++
    codes "OR number NOT BETWEEN 1000000 AND 9999999999 LIMIT 1"
reading_text ReviewerOutside =
    codes "SELECT session FROM reviewer WHERE session NOT BETWEEN 1000000 AND 9999999999 LIMIT 1"

-- ---- what they select

abbrev pub account_terms : List Term
account_terms = col 1 0 ∷ col 1 2 ∷ col 1 3 ∷ col 1 4 ∷ []

abbrev pub session_terms : List Term
session_terms = col 1 0 ∷ col 1 2 ∷ col 1 3 ∷ col 1 4 ∷ col 1 5 ∷ col 1 6 ∷ col 1 7 ∷ col 1 8 ∷ []

abbrev pub request_terms : List Term
request_terms = col 1 0 ∷ col 1 2 ∷ col 1 3 ∷ col 1 4 ∷ col 1 5 ∷ col 1 6 ∷ []

-- with the text of a certification alone
abbrev pub summary_terms : List Term
summary_terms =
    let body = case (op2 (Compare Eq Binary) (col 1 3) (lit (Int (pos 4)))) (col 1 4) (lit Null) in
    col 1 0 ∷ col 1 2 ∷ col 1 3 ∷ body ∷ col 1 5 ∷ col 1 6 ∷ []

abbrev pub status_terms : List Term
status_terms = col 1 5 ∷ col 1 6 ∷ []

abbrev pub set_terms : List Term
set_terms = col 1 0 ∷ col 1 2 ∷ col 1 3 ∷ col 1 4 ∷ col 1 5 ∷ col 1 6 ∷ col 1 7 ∷ col 1 8 ∷ []

-- the columns of a vector set that are read of it
abbrev pub read_terms : List Term
read_terms = col 1 0 ∷ col 1 2 ∷ col 1 4 ∷ col 1 5 ∷ col 1 6 ∷ col 1 7 ∷ col 1 8 ∷ []

-- those that are read of many
abbrev pub short_terms : List Term
short_terms =
    col 1 0 ∷ col 1 2 ∷ col 1 4 ∷ op2 (Is Binary) (col 1 5) (lit Null) ∷ col 1 6 ∷ col 1 7 ∷ col 1 8 ∷ []

abbrev pub live_terms : List Term
live_terms =
    op2 (Compare Ge Binary) (col 1 0) (col 0 0) ∷ op2 (Compare Le Binary) (col 1 0) (col 0 1) ∷
    op2 (Compare Ne Binary) (col 1 4) (lit (Int (pos 1))) ∷ []

abbrev pub object_terms : List Term
object_terms = col 1 1 ∷ col 1 2 ∷ col 1 3 ∷ col 1 4 ∷ []

abbrev pub reviewer_terms : List Term
reviewer_terms = col 1 1 ∷ col 1 2 ∷ []

abbrev pub reading_query : Reading → Layout → Query
reading_query AccountAt layout = simple 2 (equals 0 0 ∷ []) account_terms
reading_query SessionAt layout = simple 3 (equals 0 0 ∷ []) session_terms
reading_query RequestAt layout = simple 7 (equals 0 0 ∷ []) request_terms
reading_query StatusAt layout = simple 7 (equals 0 0 ∷ []) status_terms
reading_query SetAt layout = simple (set_tree layout) (equals 0 0 ∷ []) read_terms
reading_query CapabilityAt layout = simple (set_tree layout) (equals 0 0 ∷ []) (col 1 3 ∷ [])
reading_query VerdictsAt layout = simple (set_tree layout) (equals 0 0 ∷ []) (col 1 6 ∷ [])
reading_query ObjectAt layout = simple 5 (equals 1 0 ∷ equals 2 1 ∷ []) object_terms
reading_query OwnerAt layout = simple 5 (equals 1 0 ∷ equals 2 1 ∷ []) (col 1 3 ∷ [])
reading_query ReviewerAt layout = simple (reviewer_tree layout) (equals 1 0 ∷ equals 2 1 ∷ []) (col 1 2 ∷ [])
reading_query SetsOf layout = ordered_by 0 (set_tree layout) live_terms short_terms
reading_query ReviewersOf layout = ordered_by 2 (reviewer_tree layout) (equals 1 0 ∷ []) (col 1 2 ∷ [])
reading_query SessionPage layout = paging 3 (within 0) session_terms 0
reading_query RequestPage layout = paging 7 (within 0) summary_terms 0
reading_query ObjectPage layout = paging 5 (equals 1 3 ∷ within 2) object_terms 2
reading_query GreatestEpoch layout =
    record (simple (set_tree layout) [] (col 1 0 ∷ [])) {
      group = Some (record {
        keys = [];
        collations = [];
        aggregates = record { op = Max; distinct = false; collation = Binary; argument = col 1 8 } ∷ [];
        having = [];
      });
    }
reading_query NewestSession layout = newest 3 (within 0) 0
reading_query NewestRequest layout = newest 7 (within 0) 0
reading_query NewestObject layout = newest 5 (equals 1 2 ∷ within 2) 2
reading_query AccountRange layout = ordered_by 0 2 (within 0) account_terms
reading_query SessionRange layout = ordered_by 0 3 (within 0) session_terms
reading_query RequestRange layout = ordered_by 0 7 (within 0) request_terms
reading_query SetRange layout = ordered_by 0 (set_tree layout) (within 0) set_terms
reading_query ObjectRange layout = ordered_by 2 5 (equals 1 2 ∷ within 2) object_terms
reading_query ReviewerRange layout = ordered_by 1 (reviewer_tree layout) (within 1) reviewer_terms
reading_query AccountOutside layout = outside 2 1 9999
reading_query SessionOutside layout = outside 3 1000000 9999999999
reading_query RequestOutside layout = outside 7 1000000 9999999999
reading_query SetOutside layout = outside (set_tree layout) 100000000 999999999999
reading_query ObjectOutside layout = first_where 5 2 (op2 Or (not_between 1 1 3) (not_between 2 1000000 9999999999))
reading_query ReviewerOutside layout = first_where (reviewer_tree layout) 1 (not_between 1 1000000 9999999999)

-- ---- the names of the columns

abbrev account_names : List (List ℕ)
account_names = codes "account" ∷ codes "secret" ∷ codes "enabled" ∷ codes "last_step" ∷ []

abbrev session_names : List (List ℕ)
session_names =
    codes "session" ∷ codes "account" ∷ codes "sample" ∷ codes "created" ∷ codes "cancelled" ∷ codes "certify" ∷
    codes "live" ∷ codes "passed" ∷ []

abbrev request_names : List ℕ → List (List ℕ)
request_names body =
    codes "request" ∷ codes "account" ∷ codes "kind" ∷ body ∷ codes "status" ∷ codes "approved" ∷ []

abbrev set_names : List ℕ → List (List ℕ)
set_names answers =
    codes "cancelled" ∷ answers ∷ codes "verdicts" ∷ codes "disposition" ∷ codes "epoch" ∷ []

abbrev object_names : List (List ℕ)
object_names = codes "kind" ∷ codes "number" ∷ codes "account" ∷ codes "body" ∷ []

abbrev reading_names : Reading → List (List ℕ)
reading_names AccountAt = account_names
reading_names SessionAt = session_names
reading_names RequestAt = request_names (codes "body")
reading_names StatusAt = codes "status" ∷ codes "approved" ∷ []
reading_names SetAt = codes "vs" ∷ codes "session" ∷ set_names (codes "answers")
reading_names CapabilityAt = codes "capability" ∷ []
reading_names VerdictsAt = codes "verdicts" ∷ []
reading_names ObjectAt = object_names
reading_names OwnerAt = codes "account" ∷ []
reading_names ReviewerAt = codes "account" ∷ []
reading_names SetsOf = codes "vs" ∷ codes "session" ∷ set_names (codes "answers IS NULL")
reading_names ReviewersOf = codes "account" ∷ []
reading_names SessionPage = session_names
reading_names RequestPage = request_names (codes "CASE WHEN kind = 4 THEN body END")
reading_names ObjectPage = object_names
reading_names GreatestEpoch = codes "MAX(epoch)" ∷ []
reading_names NewestRequest = codes "request" ∷ []
reading_names NewestObject = codes "number" ∷ []
reading_names AccountRange = account_names
reading_names SessionRange = session_names
reading_names RequestRange = request_names (codes "body")
reading_names SetRange = codes "vs" ∷ codes "session" ∷ codes "capability" ∷ set_names (codes "answers")
reading_names ObjectRange = object_names
reading_names ReviewerRange = codes "session" ∷ codes "account" ∷ []
reading_names AccountOutside = codes "account" ∷ []
reading_names RequestOutside = codes "request" ∷ []
reading_names SetOutside = codes "vs" ∷ []
reading_names ObjectOutside = codes "number" ∷ []
reading_names _ = codes "session" ∷ []

-- ---- what the texts mean

abbrev reading_command : Reading → Layout → Command
reading_command r layout = Select (record { lets = []; body = reading_query r layout }) (reading_names r)

is_compiled : (layout : Layout) (r : Reading)
    → IsCompiled (compiled (schema_of layout) (reading_text r)) (reading_command r layout)
unfolding compiled everything
is_compiled Created AccountAt = (refl, refl, refl)
is_compiled Migrated AccountAt = (refl, refl, refl)
is_compiled _ _ = (refl, refl, refl)

pub is_query : (r : Reading) → IsQuery (reading_text r)
unfolding first everything
is_query AccountAt = refl
is_query _ = refl

-- so the rows that it shows are an answer of its query
pub answers : (r : Reading) (layout : Layout) (params : Row) (old new : State) (rows : List Row)
    → old.now.schema ≡ schema_of layout → Shown (reading_text r) params old new rows
    → IsAnswer (reading_query r layout) (overlay old.now.trees []) params rows
answers r layout params old new rows schema h =
    let is = as_compiled (schema_of layout) (reading_text r) (reading_command r layout) (is_compiled layout r) in
    (reads_as (reading_text r) params old new (schema_of layout) schema _ is.0.0 is.0.1 is.1 rows h).answer Null

pub answers_as : (r : Reading) (layout : Layout) (params : Row) (old new : State) (rows : List Row)
    → old.now.schema ≡ schema_of layout → Shown (reading_text r) params old new rows
    → (q : Query) → reading_query r layout ≡ q → IsAnswer q (overlay old.now.trees []) params rows
answers_as r layout params old new rows schema h q is =
    subst (λ q. IsAnswer q (overlay old.now.trees []) params rows) is (answers r layout params old new rows schema h)
