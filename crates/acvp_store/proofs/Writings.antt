-- The statements that write a store: their texts, and what these mean whichever way its tables lie.
use Rattle.std.proofs.Common.{◌≡◌, refl, None, Ok, Result, [], ◌∷◌, ◌++◌, List, ℕ, codes, pos}
use Rattle.sqlite.specs.Listing.{understood}
use Rattle.sqlite.specs.Source.TheVariants as source
use Rattle.sqlite.specs.State.{Writes}
use Rattle.sqlite_resolve.specs.Compile.{compiled}
use Rattle.sqlite_tied.specs.Compute.{everything}
use Rattle.acvp_store.proofs.Words.{Binary, col, Command, Compare, Created, Database, Delete, Does, Eq}
use Rattle.acvp_store.proofs.Words.{Insert, Int, IsInside, IsPerformed, Layout, lit}
use Rattle.acvp_store.proofs.Words.{Lt, Migrated, mode_of, Null, op2, Query, reviewer_tree, Row, Runs, schema_of}
use Rattle.acvp_store.proofs.Words.{set_tree, State, statement_of, Tally, Term, Text, Under, UnderStore}
use Rattle.acvp_store.proofs.Words.{Update, Values}
use Rattle.acvp_store.proofs.QueryForms.{equals, collated, simple}
use Rattle.acvp_store.proofs.Compiled.{as_compiled, IsCompiled}
use Rattle.acvp_store.proofs.Together.{inside, inside_store}

pub data Writing : Type 0 where
  VersionAdded : Writing
  VersionRaised : Writing
  AccountAdded : Writing
  StepUsed : Writing
  AccountDisabled : Writing
  SessionAdded : Writing
  SessionCancelled : Writing
  SessionCounted : Writing
  SessionPassed : Writing
  SessionCertified : Writing
  SetAdded : Writing
  SetCancelled : Writing
  SetGraded : Writing
  RequestAdded : Writing
  RequestDecided : Writing
  ObjectRegistered : Writing
  ReviewerAdded : Writing
  ReviewerRemoved : Writing

-- ---- the texts

abbrev pub writing_text : Writing → List ℕ
writing_text VersionAdded = codes "INSERT INTO meta (name, value) VALUES ('schema', 3)"
writing_text VersionRaised = codes "UPDATE meta SET value = 3 WHERE name = 'schema'"
writing_text AccountAdded =
    codes "INSERT INTO account (account, secret, enabled, last_step) VALUES (?1, ?2, 1, NULL)"
writing_text StepUsed = codes "UPDATE account SET last_step = ?2 WHERE account = ?1"
writing_text AccountDisabled = codes "UPDATE account SET enabled = 0 WHERE account = ?1"
writing_text SessionAdded =
    codes "INSERT INTO session (session, account, sample, created, cancelled, certify, live, passed) " ++
    codes "VALUES (?1, ?2, ?3, ?4, 0, NULL, ?5, 0)"
writing_text SessionCancelled = codes "UPDATE session SET cancelled = 1 WHERE session = ?1"
writing_text SessionCounted = codes "UPDATE session SET live = ?2, passed = ?3 WHERE session = ?1"
writing_text SessionPassed = codes "UPDATE session SET passed = ?2 WHERE session = ?1"
writing_text SessionCertified = codes "UPDATE session SET certify = ?2 WHERE session = ?1"
writing_text SetAdded =
    codes "INSERT INTO vset2 (vs, session, capability, cancelled, answers, verdicts, disposition, epoch) " ++
    codes "VALUES (?1, ?2, ?3, 0, NULL, NULL, NULL, ?4)"
writing_text SetCancelled = codes "UPDATE vset2 SET cancelled = 1 WHERE vs = ?1"
writing_text SetGraded = codes "UPDATE vset2 SET answers = ?2, verdicts = ?3, disposition = ?4 WHERE vs = ?1"
writing_text RequestAdded =
    codes "INSERT INTO request (request, account, kind, body, status, approved) VALUES (?1, ?2, ?3, ?4, 0, NULL)"
writing_text RequestDecided = codes "UPDATE request SET status = ?2, approved = ?3 WHERE request = ?1"
writing_text ObjectRegistered =
    codes "INSERT INTO object (kind, number, account, body) " ++
    codes "SELECT kind, ?2, account, body FROM request WHERE request = ?1 AND kind < 4"
writing_text ReviewerAdded = codes "INSERT INTO reviewer (session, account) VALUES (?1, ?2)"
writing_text ReviewerRemoved = codes "DELETE FROM reviewer WHERE session = ?1 AND account = ?2"

-- ---- what they write

-- the place of the table of sets among the tables
abbrev pub set_place : Layout → ℕ
set_place Created = 3
set_place Migrated = 6

-- the place of the table of reviewers
abbrev pub reviewer_place : Layout → ℕ
reviewer_place Created = 6
reviewer_place Migrated = 7

-- what is written behind the NULL of the number, or the values, or by what it is selected
abbrev pub writing_terms : Writing → List Term
writing_terms VersionAdded = lit Null ∷ lit (Text (codes "schema")) ∷ lit (Int (pos 3)) ∷ []
writing_terms VersionRaised = col 1 0 ∷ col 1 0 ∷ col 1 1 ∷ lit (Int (pos 3)) ∷ []
writing_terms AccountAdded = col 0 0 ∷ lit Null ∷ col 0 1 ∷ lit (Int (pos 1)) ∷ lit Null ∷ []
writing_terms StepUsed = col 1 2 ∷ col 1 3 ∷ col 0 1 ∷ []
writing_terms AccountDisabled = col 1 2 ∷ lit (Int (pos 0)) ∷ col 1 4 ∷ []
writing_terms SessionAdded =
    col 0 0 ∷ lit Null ∷ col 0 1 ∷ col 0 2 ∷ col 0 3 ∷ lit (Int (pos 0)) ∷ lit Null ∷ col 0 4 ∷ lit (Int (pos 0)) ∷ []
writing_terms SessionCancelled =
    col 1 2 ∷ col 1 3 ∷ col 1 4 ∷ lit (Int (pos 1)) ∷ col 1 6 ∷ col 1 7 ∷ col 1 8 ∷ []
writing_terms SessionCounted = col 1 2 ∷ col 1 3 ∷ col 1 4 ∷ col 1 5 ∷ col 1 6 ∷ col 0 1 ∷ col 0 2 ∷ []
writing_terms SessionPassed = col 1 2 ∷ col 1 3 ∷ col 1 4 ∷ col 1 5 ∷ col 1 6 ∷ col 1 7 ∷ col 0 1 ∷ []
writing_terms SessionCertified = col 1 2 ∷ col 1 3 ∷ col 1 4 ∷ col 1 5 ∷ col 0 1 ∷ col 1 7 ∷ col 1 8 ∷ []
writing_terms SetAdded =
    col 0 0 ∷ lit Null ∷ col 0 1 ∷ col 0 2 ∷ lit (Int (pos 0)) ∷ lit Null ∷ lit Null ∷ lit Null ∷ col 0 3 ∷ []
writing_terms SetCancelled =
    col 1 2 ∷ col 1 3 ∷ lit (Int (pos 1)) ∷ col 1 5 ∷ col 1 6 ∷ col 1 7 ∷ col 1 8 ∷ []
writing_terms SetGraded = col 1 2 ∷ col 1 3 ∷ col 1 4 ∷ col 0 1 ∷ col 0 2 ∷ col 0 3 ∷ col 1 8 ∷ []
writing_terms RequestAdded =
    col 0 0 ∷ lit Null ∷ col 0 1 ∷ col 0 2 ∷ col 0 3 ∷ lit (Int (pos 0)) ∷ lit Null ∷ []
writing_terms RequestDecided = col 1 2 ∷ col 1 3 ∷ col 1 4 ∷ col 0 1 ∷ col 0 2 ∷ []
writing_terms ObjectRegistered = lit Null ∷ col 1 3 ∷ col 0 1 ∷ col 1 2 ∷ col 1 4 ∷ []
writing_terms ReviewerAdded = lit Null ∷ col 0 0 ∷ col 0 1 ∷ []
writing_terms ReviewerRemoved = equals 1 0 ∷ equals 2 1 ∷ []

-- an UPDATE of the row of a number
abbrev pub updating : List Term → List Term
updating terms = col 1 0 ∷ col 1 0 ∷ lit Null ∷ terms

abbrev pub update : ℕ → ℕ → List Term → Command
update place tree terms = Update place (record { lets = []; body = simple tree (equals 0 0 ∷ []) (updating terms) })

-- of all metadata the row of the schema's version
abbrev pub raise_query : Query
raise_query =
    simple 0 (op2 (Compare Eq Binary) (col 1 1) (lit (Text (codes "schema"))) ∷ []) (writing_terms VersionRaised)

-- of a request for registration what the object has
abbrev pub register_query : Query
register_query =
    let asked = equals 0 0 ∷ op2 (Compare Lt Binary) (col 1 3) (lit (Int (pos 4))) ∷ [] in
    collated (Binary ∷ Binary ∷ Binary ∷ Binary ∷ Binary ∷ []) 7 asked (writing_terms ObjectRegistered)

abbrev pub remove_query : Layout → Query
remove_query layout = simple (reviewer_tree layout) (writing_terms ReviewerRemoved) (col 1 0 ∷ [])

abbrev pub writing_command : Writing → Layout → Command
writing_command VersionAdded layout = Insert 0 (Values (writing_terms VersionAdded) 3)
writing_command VersionRaised layout = Update 0 (record { lets = []; body = raise_query })
writing_command AccountAdded layout = Insert 1 (Values (writing_terms AccountAdded) 5)
writing_command StepUsed layout = update 1 2 (writing_terms StepUsed)
writing_command AccountDisabled layout = update 1 2 (writing_terms AccountDisabled)
writing_command SessionAdded layout = Insert 2 (Values (writing_terms SessionAdded) 9)
writing_command SessionCancelled layout = update 2 3 (writing_terms SessionCancelled)
writing_command SessionCounted layout = update 2 3 (writing_terms SessionCounted)
writing_command SessionPassed layout = update 2 3 (writing_terms SessionPassed)
writing_command SessionCertified layout = update 2 3 (writing_terms SessionCertified)
writing_command SetAdded layout = Insert (set_place layout) (Values (writing_terms SetAdded) 9)
writing_command SetCancelled layout = update (set_place layout) (set_tree layout) (writing_terms SetCancelled)
writing_command SetGraded layout = update (set_place layout) (set_tree layout) (writing_terms SetGraded)
writing_command RequestAdded layout = Insert 5 (Values (writing_terms RequestAdded) 7)
writing_command RequestDecided layout = update 5 7 (writing_terms RequestDecided)
writing_command ObjectRegistered layout = Insert 4 (source.Query (record { lets = []; body = register_query }))
writing_command ReviewerAdded layout = Insert (reviewer_place layout) (Values (writing_terms ReviewerAdded) 3)
writing_command ReviewerRemoved layout =
    Delete (reviewer_place layout) (record { lets = []; body = remove_query layout })

-- ---- what the texts mean

is_compiled : (layout : Layout) (w : Writing)
    → IsCompiled (compiled (schema_of layout) (writing_text w)) (writing_command w layout)
unfolding compiled everything
is_compiled Created AccountAdded = (refl, refl, refl)
is_compiled Migrated AccountAdded = (refl, refl, refl)
is_compiled _ _ = (refl, refl, refl)

-- each writes
only_writes : (w : Writing) (layout : Layout) (old new : State) (text : List ℕ) (params : Row) (count : ℕ)
    → Runs old new None (writing_command w layout) text params count
    → Writes old new None (writing_command w layout) text params count
only_writes AccountAdded layout old new text params count h = h
only_writes _ layout old new text params count h = h

-- what one does to a database that is a store's
abbrev pub Effects : Writing → Layout → Row → State → (Database → Database → Type 0) → Type 0
Effects w layout params old Change =
    old.now.schema ≡ schema_of layout → (tally : Tally) (after : Database)
    → Does old.step_limit (mode_of old) params old.now
    (statement_of (writing_text w) (understood (schema_of layout) (writing_text w))) None (writing_command w layout)
    (Ok (tally, after)) → Change old.now after

-- ---- inside a transaction

module _ (w : Writing) (params : Row) (old new : State) {X E : Type 0} (q : Result X E)
    (h : IsPerformed q (writing_text w) params old new) where
  -- under one schema
  pub writes_under : (layout : Layout) (Change : Database → Database → Type 0)
      → Effects w layout params old Change → IsInside q old new (Under (schema_of layout) Change)
  writes_under layout Change effect =
      inside (schema_of layout) (writing_text w) params old new (writing_command w layout)
      (as_compiled (schema_of layout) (writing_text w) (writing_command w layout) (is_compiled layout w)).0
      (only_writes w layout old new _ params) Change effect q h

  -- whichever way the tables lie
  pub writes : (Change : Layout → Database → Database → Type 0)
      → ((layout : Layout) → Effects w layout params old (Change layout)) → IsInside q old new (UnderStore Change)
  writes Change effect =
      inside_store q old new Change (λ layout. writes_under layout (Change layout) (effect layout))
