-- Which rows of the tables stand for a content.
use Rattle.std.specs.Prelude.{◌≡◌, ◌<◌, ◌<ℤ◌, ◌^◌, ⊤, ℕ, ℤ, Bool, List, [], ◌∷◌, map, codes, Option, Some, None, Ok}
use Rattle.std.specs.Prelude.{unwrap_or}
use Rattle.std.specs.List.{AllZip, AllByRecursion}
use Rattle.std.specs.List.Sorted.{IsPermutation}
use Rattle.serde_json.specs.Data.{Data, number, unsigned, string, object, member, no_members}
use Rattle.serde_json.specs.Written.{compact_text}
use Rattle.sqlite.specs.Values.{or_null}
use Rattle.sqlite_value.specs.declared.value.Value.TheVariants.{Null, Int, Text}
use Rattle.sqlite_value.specs.Order.{Row}
use Rattle.sqlite_trees.specs.Tree.{Trees, IsAscending}
use Rattle.acvp_caps.specs.Registered.{registered_text}
use Rattle.acvp_answers.specs.VerdictText.{verdicts_text}
use Rattle.acvp_answers.specs.Verdicts.{disposition_of}
use Rattle.acvp_answers.specs.declared.verdict.Disposition.{Disposition}
use Rattle.acvp_answers.specs.declared.verdict.Disposition.TheVariants.{Passed, Fail, Missing, Expired, Unreceived}
use Rattle.acvp_registry.specs.declared.kind.Kind.TheVariants.{Module, Environment}
use Rattle.acvp_registry.specs.Json.{body_json}
use Rattle.acvp_registry.specs.Object.{object_text}
use Rattle.acvp_registry.specs.Url.{url_of}
use Rattle.acvp_json.specs.KeptAnswers.{kept_text, kept_answers}
use Rattle.acvp_tables.specs.Content.{Content, kind_number}
use Rattle.acvp_tables.specs.Graded.{GradedValue}
use Rattle.acvp_tables.specs.State.{given_number}
use Rattle.acvp_tables.specs.declared.rows.SetRow.{SetRow}
use Rattle.acvp_tables.specs.declared.rows.ObjectRow.{ObjectRow}
use Rattle.acvp_tables.specs.declared.rows.RequestRow.{RequestRow}
use Rattle.acvp_tables.specs.declared.rows.RequestBody.{RequestBody}
use Rattle.acvp_tables.specs.declared.rows.RequestBody.TheVariants as body
use Rattle.acvp_tables.specs.declared.rows.RequestStatus.{RequestStatus}
use Rattle.acvp_tables.specs.declared.rows.RequestStatus.TheVariants as status
use Rattle.acvp_tables.specs.declared.rows.Certification.{Certification}
use Rattle.acvp_tables.specs.declared.rows.ReviewerRow.{ReviewerRow}
use Rattle.acvp_store.specs.Values.{whole, flag}
use Rattle.acvp_store.specs.Kept.{AreKept}
use Rattle.acvp_store.specs.Version.{HasVersion}
use Rattle.acvp_store.specs.Schema.{Layout, Created, Migrated, SchemaVersion, First, Second, Third, version_number}
use Rattle.acvp_store.specs.Rows.{account_tree, HoldsAccounts, session_tree, HoldsSessions}

-- ---- vector sets

pub record SetColumns : Type 0 where
  pub number : ℕ
  pub session : ℕ
  pub capability : List ℕ
  pub cancelled : Bool
  pub answers : Option (List ℕ)
  pub verdicts : Option (List ℕ)
  pub disposition : Option ℕ
  pub epoch : ℕ

abbrev pub set_tree : Layout → ℕ
set_tree Created = 4
set_tree Migrated = 8

abbrev pub set_key : SetColumns → ℕ
set_key c = c.number

abbrev pub set_row : SetColumns → Row
set_row c = whole c.number ∷ Null ∷ whole c.session ∷ Text c.capability ∷ flag c.cancelled ∷ or_null Text c.answers
    ∷ or_null Text c.verdicts ∷ or_null whole c.disposition ∷ whole c.epoch ∷ []

-- only these three are kept
abbrev pub disposition_number : Disposition → Option ℕ
disposition_number Fail = Some 0
disposition_number Missing = Some 1
disposition_number Passed = Some 2
disposition_number Expired = None
disposition_number Unreceived = None

-- Answers, verdicts and disposition are there together. The text of the answers reads as they, which ascend, and the
-- disposition is the one that the verdicts give.
abbrev pub IsGradedAs : SetColumns → Option GradedValue → Type 0
IsGradedAs c None = (c.answers ≡ None) × (c.verdicts ≡ None) × (c.disposition ≡ None)
IsGradedAs c (Some g) = (c.answers ≡ Some (kept_text g.answers)) × (c.verdicts ≡ Some (verdicts_text g.verdicts))
    × (n : ℕ) × (c.disposition ≡ Some n) × (disposition_number g.disposition ≡ Some n)
    × (kept_answers (kept_text g.answers) ≡ Some g.answers)
    × (g.disposition ≡ disposition_of g.verdicts)

-- the columns are those of the set: the text of the capability reads as it
pub record IsSet (c : SetColumns) (row : SetRow) : Type 0 where
  pub number : c.number ≡ row.number
  pub session : c.session ≡ row.session
  pub capability : registered_text c.capability ≡ Ok (Some row.capability)
  pub cancelled : c.cancelled ≡ row.cancelled
  pub graded : IsGradedAs c row.graded
  pub epoch : c.epoch ≡ row.epoch

pub record HoldsSets (rows : List Row) (sets : List SetRow) : Type 0 where
  pub columns : List SetColumns
  pub kept : AreKept set_key set_row rows columns
  pub same : AllZip IsSet columns sets

-- The earlier table of sets keeps no epoch.
abbrev pub old_set_columns : SetColumns → Row
old_set_columns c =
    Null ∷ whole c.session ∷ Text c.capability ∷ flag c.cancelled ∷ or_null Text c.answers ∷ or_null Text c.verdicts
    ∷ or_null whole c.disposition ∷ []

abbrev pub old_set_row : SetColumns → Row
old_set_row c = whole c.number ∷ old_set_columns c

-- its sets are of epoch 0
abbrev pub of_first_epoch : SetColumns → SetColumns
of_first_epoch c = record c { epoch = 0 }

pub record HoldsOldSets (rows : List Row) (sets : List SetRow) : Type 0 where
  pub columns : List SetColumns
  pub kept : AreKept set_key old_set_row rows columns
  pub same : AllZip IsSet (map of_first_epoch columns) sets

-- ---- tables under a key of two columns: each row has a number in its tree that the database chose

pub record Entry (A : Type 0) : Type 0 where
  pub id : ℤ
  pub row : A

abbrev pub entry_row : {A : Type 0} → (A → Row) → Entry A → Row
entry_row columns e = Int e.id ∷ columns e.row

-- the rows are those of the list's members, in the order of these numbers
pub record HoldsEntries {A : Type 0} (columns : A → Row) (rows : List Row) (list : List A) : Type 0 where
  pub entries : List (Entry A)
  pub rows_are : rows ≡ map (entry_row columns) entries
  pub rising : IsAscending (λ a b. a.id <ℤ b.id) entries
  pub same : IsPermutation (map (λ e. e.row) entries) list

abbrev pub object_tree : ℕ
object_tree = 5

abbrev pub object_columns : ObjectRow → Row
object_columns o =
    whole (kind_number o.object.kind) ∷ whole o.number ∷ whole o.account ∷ Text (object_text o.object) ∷ []

abbrev pub HoldsObjects : List Row → List ObjectRow → Type 0
HoldsObjects = HoldsEntries object_columns

-- the number fits a column, and the text reads as the object
abbrev pub IsKeepable : ObjectRow → Type 0
IsKeepable o = (o.number < 2 ^ 63) × (body_json (object_text o.object) ≡ Some o.object.value)

-- each can be kept
abbrev pub FitColumns : List ObjectRow → Type 0
FitColumns objects = AllByRecursion IsKeepable objects

abbrev pub reviewer_tree : Layout → ℕ
reviewer_tree Created = 8
reviewer_tree Migrated = 9

abbrev pub reviewer_columns : ReviewerRow → Row
reviewer_columns r = whole r.session ∷ whole r.account ∷ []

-- each session's number fits a column
pub record HoldsReviewers (rows : List Row) (reviewers : List ReviewerRow) : Type 0 where
  pub kept : HoldsEntries reviewer_columns rows reviewers
  pub fits : AllByRecursion (λ (r : ReviewerRow). r.session < 2 ^ 63) reviewers

-- ---- requests

abbrev pub body_number : RequestBody → ℕ
body_number (body.Registration o) = kind_number o.kind
body_number (body.Certification c) = 4

-- a certification as it is kept: its module and its environment by their URLs, and its session by its number
abbrev pub certification_data : Certification → Data
certification_data c =
    object (member (codes "moduleUrl") (string (unwrap_or (url_of Module c.«module») []))
    (member (codes "oeUrl") (string (unwrap_or (url_of Environment c.environment) []))
    (member (codes "session") (number (unsigned c.session)) no_members)))

abbrev pub body_text : RequestBody → List ℕ
body_text (body.Registration o) = object_text o
body_text (body.Certification c) = compact_text (certification_data c)

-- the text reads as the body, and the numbers of what a certification names fit 64 bits
abbrev pub BodyReads : RequestBody → Type 0
BodyReads (body.Registration o) = body_json (object_text o) ≡ Some o.value
BodyReads (body.Certification c) = (body_json (compact_text (certification_data c)) ≡ Some (certification_data c))
    × (c.«module» < 2 ^ 64) × (c.environment < 2 ^ 64)

abbrev pub status_number : RequestStatus → ℕ
status_number status.Initial = 0
status_number (status.Approved n) = 1
status_number status.Rejected = 2

abbrev pub request_row : RequestRow → Row
request_row r = whole r.number ∷ Null ∷ whole r.account ∷ whole (body_number r.body) ∷ Text (body_text r.body)
    ∷ whole (status_number r.status) ∷ or_null whole (given_number r.status) ∷ []

abbrev pub request_tree : ℕ
request_tree = 7

abbrev pub request_key : RequestRow → ℕ
request_key r = r.number

pub record HoldsRequests (rows : List Row) (requests : List RequestRow) : Type 0 where
  pub kept : AreKept request_key request_row rows requests
  pub texts : AllByRecursion (λ (r : RequestRow). BodyReads r.body) requests

-- ---- the whole

-- schema 1 has its own table of sets
abbrev pub HoldsSetsAt : SchemaVersion → Trees → List SetRow → Type 0
HoldsSetsAt First trees sets = HoldsOldSets (trees 4) sets
HoldsSetsAt (Second layout) trees sets = HoldsSets (trees (set_tree layout)) sets
HoldsSetsAt (Third layout) trees sets = HoldsSets (trees (set_tree layout)) sets

-- reviewers are there from schema 3 on
abbrev pub HoldsReviewersAt : SchemaVersion → Trees → List ReviewerRow → Type 0
HoldsReviewersAt First trees reviewers = reviewers ≡ []
HoldsReviewersAt (Second layout) trees reviewers = reviewers ≡ []
HoldsReviewersAt (Third layout) trees reviewers = HoldsReviewers (trees (reviewer_tree layout)) reviewers

-- the table of sets of schema 1 has no row where it stands beside the later one
abbrev pub HasNoOldSets : Layout → Trees → Type 0
HasNoOldSets Created trees = ⊤
HasNoOldSets Migrated trees = trees 4 ≡ []

abbrev pub HasNoOldSetsAt : SchemaVersion → Trees → Type 0
HasNoOldSetsAt First trees = ⊤
HasNoOldSetsAt (Second layout) trees = HasNoOldSets layout trees
HasNoOldSetsAt (Third layout) trees = HasNoOldSets layout trees

-- the rows of the tables of a version
pub record StandsAt (version_of : SchemaVersion) (trees : Trees) (c : Content) : Type 0 where
  pub version : HasVersion (version_number version_of) trees
  pub accounts : HoldsAccounts (trees account_tree) c.accounts
  pub sessions : HoldsSessions (trees session_tree) c.sessions
  pub sets : HoldsSetsAt version_of trees c.sets
  pub no_old_sets : HasNoOldSetsAt version_of trees
  pub objects : HoldsObjects (trees object_tree) c.objects
  pub object_numbers : FitColumns c.objects
  pub requests : HoldsRequests (trees request_tree) c.requests
  pub reviewers : HoldsReviewersAt version_of trees c.reviewers

-- those of schema 3
abbrev pub Stands : Layout → Trees → Content → Type 0
Stands layout = StandsAt (Third layout)
