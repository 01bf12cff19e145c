-- What is kept: for each table a list of its rows. And what each read selects of it.
use Rattle.std.specs.Prelude.{ℕ, List, [], ◌∷◌, length, filter, find, take, drop, Bool, ◌==◌, ◌&&◌, not, nat_le}
use Rattle.std.specs.Prelude.{if◌then◌else◌, Option, Some, None, option_map}
use Rattle.std.specs.List.{list_any, range_with_len}
use Rattle.acvp_answers.specs.declared.verdict.Verdict.{Verdict}
use Rattle.acvp_registry.specs.declared.kind.Kind.{Kind}
use Rattle.acvp_registry.specs.declared.kind.Kind.TheVariants.{Vendor, Module, Environment, Certification}
use Rattle.acvp_tables.specs.Graded.{GradedValue}
use Rattle.acvp_tables.specs.declared.rows.AccountRow.{AccountRow}
use Rattle.acvp_tables.specs.declared.rows.SessionRow.{SessionRow}
use Rattle.acvp_tables.specs.declared.rows.SetRow.{SetRow}
use Rattle.acvp_tables.specs.declared.rows.ObjectRow.{ObjectRow}
use Rattle.acvp_tables.specs.declared.rows.RequestRow.{RequestRow}
use Rattle.acvp_tables.specs.declared.rows.RequestBody.{RequestBody}
use Rattle.acvp_tables.specs.declared.rows.RequestBody.TheVariants as body
use Rattle.acvp_tables.specs.declared.rows.ReviewerRow.{ReviewerRow}
use Rattle.acvp_tables.specs.declared.summary.SetSummary.{SetSummary}
use Rattle.acvp_tables.specs.declared.summary.RequestSummary.{RequestSummary}
use Rattle.acvp_tables.specs.declared.summary.RequestPurpose.{RequestPurpose}
use Rattle.acvp_tables.specs.declared.summary.RequestPurpose.TheVariants as purpose
use Rattle.acvp_tables.specs.declared.summary.Counted.{Counted}
use Rattle.acvp_tables.specs.declared.summary.Counted.TheVariants as counted
use Rattle.acvp_registry.specs.declared.counts.Counts.{Counts}

pub record Content : Type 0 where
  pub accounts : List AccountRow
  pub sessions : List SessionRow
  pub sets : List SetRow
  pub objects : List ObjectRow
  pub requests : List RequestRow
  pub reviewers : List ReviewerRow

abbrev pub no_rows : Content
no_rows = record { accounts = []; sessions = []; sets = []; objects = []; requests = []; reviewers = [] }

-- ---- what is told of a row

-- the number of a kind, as tables keep it
abbrev pub kind_number : Kind → ℕ
kind_number Vendor = 1
kind_number Module = 2
kind_number Environment = 3
kind_number Certification = 4

abbrev pub is_kind : Kind → Kind → Bool
is_kind kind other = kind_number kind == kind_number other

abbrev pub set_summary : SetRow → SetSummary
set_summary row = record {
  number = row.number;
  session = row.session;
  epoch = row.epoch;
  cancelled = row.cancelled;
  disposition = option_map (λ (g : GradedValue). g.disposition) row.graded;
}

abbrev pub set_verdicts : SetRow → Option (List Verdict)
set_verdicts row = option_map (λ (g : GradedValue). g.verdicts) row.graded

abbrev pub purpose_of : RequestBody → RequestPurpose
purpose_of (body.Registration object) = purpose.Registration object.kind
purpose_of (body.Certification c) = purpose.Certification c

abbrev pub request_summary : RequestRow → RequestSummary
request_summary row = record {
  number = row.number;
  account = row.account;
  purpose = purpose_of row.body;
  status = row.status;
}

-- ---- rows by their numbers

abbrev pub account_at : ℕ → List AccountRow → Option AccountRow
account_at n rows = find (λ row. row.number == n) rows

abbrev pub session_at : ℕ → List SessionRow → Option SessionRow
session_at n rows = find (λ row. row.number == n) rows

abbrev pub set_at : ℕ → List SetRow → Option SetRow
set_at n rows = find (λ row. row.number == n) rows

abbrev pub object_at : Kind → ℕ → List ObjectRow → Option ObjectRow
object_at kind n rows = find (λ row. is_kind row.object.kind kind && (row.number == n)) rows

abbrev pub request_at : ℕ → List RequestRow → Option RequestRow
request_at n rows = find (λ row. row.number == n) rows

-- ---- rows of a session

-- a session's vector sets that aren't cancelled
abbrev pub is_live_in : ℕ → SetRow → Bool
is_live_in session row = (row.session == session) && not row.cancelled

abbrev pub live_sets : ℕ → List SetRow → List SetRow
live_sets session rows = filter (is_live_in session) rows

abbrev pub is_reviewer : ℕ → ℕ → List ReviewerRow → Bool
is_reviewer session account rows = list_any (λ row. (row.session == session) && (row.account == account)) rows

-- the numbers that an account may have
unfoldable pub account_numbers : List ℕ
account_numbers = range_with_len 1 9999

-- those of them that review a session
unfoldable pub reviewers_of : ℕ → List ReviewerRow → List ℕ
reviewers_of session rows = filter (λ account. is_reviewer session account rows) account_numbers

-- ---- rows of an account

abbrev pub sessions_of : ℕ → List SessionRow → List SessionRow
sessions_of account rows = filter (λ row. row.account == account) rows

abbrev pub objects_of : Kind → ℕ → List ObjectRow → List ObjectRow
objects_of kind account rows = filter (λ row. is_kind row.object.kind kind && (row.account == account)) rows

abbrev pub requests_of : ℕ → List RequestRow → List RequestRow
requests_of account rows = filter (λ row. row.account == account) rows

-- a page: so many from the offset on
abbrev pub page : {Row : Type 0} → ℕ → ℕ → List Row → List Row
page offset limit rows = take limit (drop offset rows)

abbrev pub count_of : Counted → ℕ → Content → ℕ
count_of counted.Sessions account c = length (sessions_of account c.sessions)
count_of (counted.Objects kind) account c = length (objects_of kind account c.objects)
count_of counted.Requests account c = length (requests_of account c.requests)

abbrev pub counts_of : ℕ → Content → Counts
counts_of account c = record {
  sessions = length (sessions_of account c.sessions);
  vendors = length (objects_of Vendor account c.objects);
  modules = length (objects_of Module account c.objects);
  environments = length (objects_of Environment account c.objects);
  requests = length (requests_of account c.requests);
}

-- the greater of a number and another, where there is one
abbrev pub greater : ℕ → Option ℕ → ℕ
greater n None = n
greater n (Some m) = if nat_le m n then n else m

-- the greatest epoch of all vector sets
abbrev pub greatest_epoch_of : List SetRow → Option ℕ
greatest_epoch_of [] = None
greatest_epoch_of (row ∷ rows) = Some (greater row.epoch (greatest_epoch_of rows))
