-- What every run keeps of certifications, whatever is asked and ordered.
use Rattle.std.specs.Prelude.{◌≡◌, ℕ, List, Bool, true, false, not, ◌==◌, ◌&&◌, ◌||◌, nat_le, nat_lt}
use Rattle.std.specs.Prelude.{Option, Some, None}
use Rattle.acvp_policy.specs.Conditions.{is_some_and}
use Rattle.acvp_tables.specs.Content.{Content, request_at, session_at}
use Rattle.acvp_tables.specs.State.{of_all}
use Rattle.acvp_tables.specs.declared.rows.RequestBody.{RequestBody}
use Rattle.acvp_tables.specs.declared.rows.RequestBody.TheVariants as body
use Rattle.acvp_tables.specs.declared.rows.RequestRow.{RequestRow}
use Rattle.acvp_tables.specs.declared.rows.RequestStatus.{RequestStatus}
use Rattle.acvp_tables.specs.declared.rows.RequestStatus.TheVariants as status
use Rattle.acvp_tables.specs.declared.rows.SessionRow.{SessionRow}
use Rattle.acvp_desk.specs.Answered.{AreAnswered}
use Rattle.acvp_desk.specs.Epochs.{AreInEpochs}
use Rattle.acvp_desk.specs.Kept.{IsKept}
use Rattle.acvp_desk.specs.Registrations.{AreRegistered}

abbrev pub is_rejected : RequestStatus → Bool
is_rejected status.Initial = false
is_rejected (status.Approved n) = false
is_rejected status.Rejected = true

-- the session that a body asks to certify
abbrev pub certified_session : RequestBody → Option ℕ
certified_session (body.Registration object) = None
certified_session (body.Certification it) = Some it.session

-- the session is there, and this is the request that it names as the last for its certification
abbrev pub is_last_of : ℕ → Option SessionRow → Bool
is_last_of n None = false
is_last_of n (Some row) = is_some_and row.last_request (λ m. m == n)

-- the session is there, and the request that it names as the last for its certification is this one; or, where this one
-- is rejected, a later one
abbrev pub names_it : RequestRow → Option SessionRow → Bool
names_it request None = false
names_it request (Some row) = is_some_and row.last_request
    (λ m. (m == request.number) || (is_rejected request.status && nat_lt request.number m))

-- a request for a certification is the one that its session names, or, where it is rejected, an earlier one
abbrev pub is_last : List SessionRow → RequestRow → Bool
is_last sessions request = of_all (λ s. names_it request (session_at s sessions)) (certified_session request.body)

-- a session that is no sample and isn't cancelled, with vector sets left, all of which have passed
abbrev pub may_be_certified : SessionRow → Bool
may_be_certified row = not row.sample && not row.cancelled && nat_le 1 row.live && (row.passed == row.live)

-- the request that a session names is there, and rejected unless the session may be certified
abbrev pub is_certifiable : List RequestRow → SessionRow → Bool
is_certifiable requests row = of_all
    (λ n. is_some_and (request_at n requests) (λ request. is_rejected request.status || may_be_certified row))
    row.last_request

pub record AreCertified (c : Content) : Type 0 where
  pub last : (n : ℕ) → of_all (is_last c.sessions) (request_at n c.requests) ≡ true
  pub certifiable : (n : ℕ) → of_all (is_certifiable c.requests) (session_at n c.sessions) ≡ true

-- the records have what every run keeps: they are consistent, each certification that isn't rejected is of a session
-- that has passed, each approved registration has its object as it was asked for, under a number of its own, of an
-- account's test sessions no later one was made under an earlier epoch, and each answer is to a test of its vector set
pub record IsLeft (seeds : List (List ℕ)) (c : Content) : Type 0 where
  pub kept : IsKept seeds c
  pub certified : AreCertified c
  pub registered : AreRegistered c
  pub epochs : AreInEpochs c
  pub answered : AreAnswered seeds c
