-- When a change is next: its new numbers are its account's next, and what it names is there.
use Rattle.std.specs.Prelude.{◌≡◌, ℕ, ◌+◌, ◌<◌, ◌≤◌, Bool, true, length, filter, ◌==◌, ◌||◌, nat_lt, [], Some, is_some}
use Rattle.std.specs.Prelude.{⊤}
use Rattle.acvp_tables.specs.Content.{is_reviewer, request_at}
use Rattle.acvp_tables.specs.State.{State, own, owner_of, session_record_at, objects_in, is_sound_body}
use Rattle.acvp_tables.specs.State.{is_account_number, is_account_row, is_account_there, first_of_account}
use Rattle.acvp_tables.specs.Changes.{new_account}
use Rattle.acvp_tables.specs.Own.{account_of_change, account_of_order, Fits}
use Rattle.acvp_tables.specs.declared.rows.RequestRow.{RequestRow}
use Rattle.acvp_tables.specs.declared.rows.RequestBody.{RequestBody}
use Rattle.acvp_tables.specs.declared.rows.RequestBody.TheVariants as body
use Rattle.acvp_tables.specs.declared.rows.RequestStatus.TheVariants as status
use Rattle.acvp_tables.specs.declared.change.Change.{Change}
use Rattle.acvp_tables.specs.declared.change.Change.TheVariants as change
use Rattle.acvp_tables.specs.declared.change.OrderChange.{OrderChange}
use Rattle.acvp_tables.specs.declared.change.OrderChange.TheVariants as order

-- the number that an account gives after so many, of 999999 at most
abbrev pub IsNextNumber : ℕ → ℕ → ℕ → Type 0
IsNextNumber account so_many number = (number ≡ first_of_account account + so_many) × (so_many < 999999)

-- of the session this reviewer is there, or at most 15
abbrev pub has_room : ℕ → ℕ → State → Bool
has_room session account mine =
    is_reviewer session account mine.reviewers
    || nat_lt (length (filter (λ row. row.session == session) mine.reviewers)) 16

-- an accepted action's change is next in its account's rows: the account of a new session or request is there, a new
-- session has 1 to 20 sets and was created at a moment that is served, a new request's body is one that is kept and
-- what it names is there, and a new reviewer's session is there and has room
abbrev pub IsNextFor : State → Change → Type 0
IsNextFor mine (change.NewSession s) =
    (is_account_there s.account mine ≡ true) × IsNextNumber s.account (length mine.sessions) s.number
    × (nat_lt s.created 4102444800 ≡ true)
    × (1 ≤ length s.registration.capabilities) × (length s.registration.capabilities ≤ 20)
IsNextFor mine (change.NewRequest r) =
    (is_account_there r.account mine ≡ true) × IsNextNumber r.account (length mine.requests) r.number
    × (is_sound_body mine (body.Registration r.object) ≡ true)
IsNextFor mine (change.Certify c) =
    (is_account_there c.account mine ≡ true) × IsNextNumber c.account (length mine.requests) c.number
    × (is_sound_body mine (body.Certification c.certification) ≡ true)
IsNextFor mine (change.AddReviewer r) =
    (is_some (session_record_at r.session mine.sessions) ≡ true) × (is_account_number r.account ≡ true)
    × (has_room r.session r.account mine ≡ true)
IsNextFor mine _ = ⊤

-- a request that the operator hasn't decided is there
pub record IsWaiting (n : ℕ) (mine : State) : Type 0 where
  pub row : RequestRow
  pub there : request_at n mine.requests ≡ Some row
  pub initial : row.status ≡ status.Initial

-- the number under which a request is approved is its account's next for an object of the kind, or the certified
-- session's
abbrev pub IsNextApproved : ℕ → State → RequestBody → ℕ → Type 0
IsNextApproved account mine (body.Registration object) number =
    number ≡ first_of_account account + length (objects_in object.kind mine.objects)
IsNextApproved account mine (body.Certification c) number = number ≡ c.session

-- an order's change is next in its account's rows: a new account isn't there yet, and a request that is decided waits
abbrev pub IsNextOrderFor : State → OrderChange → Type 0
IsNextOrderFor mine (order.AddAccount a) = (mine.accounts ≡ []) × (is_account_row (new_account a) ≡ true)
IsNextOrderFor mine (order.DisableAccount n) = ⊤
IsNextOrderFor mine (order.Approve a) =
    (waiting : IsWaiting a.request mine) × IsNextApproved (owner_of a.request) mine waiting.row.body a.approved
IsNextOrderFor mine (order.Reject n) = IsWaiting n mine

-- a change is next among the rows of the account that it is of
abbrev pub IsNext : State → Change → Type 0
IsNext state it = Fits it × IsNextFor (own (account_of_change it) state) it

abbrev pub IsNextOrder : State → OrderChange → Type 0
IsNextOrder state it = IsNextOrderFor (own (account_of_order it) state) it
