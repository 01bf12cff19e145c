-- What a line tells.
use Rattle.std.specs.Prelude.{ℕ, List, false, Option, Some, None, codes, decimal, if◌then◌else◌, nat_lt}
use Rattle.acvp_policy.specs.Rule.{rule_status}
use Rattle.acvp_policy.specs.declared.action.Action.TheVariants as action
use Rattle.acvp_policy.specs.declared.rule.Rule.{Rule}
use Rattle.acvp_desk.specs.Wish.{action_of_wish}
use Rattle.acvp_desk.specs.declared.request.Ask.{Ask}
use Rattle.acvp_desk.specs.declared.request.Ask.TheVariants as request
use Rattle.acvp_desk.specs.declared.order.Order.{Order}
use Rattle.acvp_desk.specs.declared.order.Order.TheVariants as order
use Rattle.acvp_desk.specs.declared.wish.Wish.{Wish}
use Rattle.acvp_desk.specs.declared.wish.Wish.TheVariants as wish
use Rattle.acvp_http.specs.declared.told.Told.{Told}
use Rattle.acvp_json.specs.Time.{time_of}
use Rattle.acvp_log.specs.declared.line.Asked.{Asked}
use Rattle.acvp_log.specs.declared.line.Asked.TheVariants as asked
use Rattle.acvp_log.specs.declared.line.Came.{Came}
use Rattle.acvp_log.specs.declared.line.Came.TheVariants.{Broken, Done, Refused}
use Rattle.acvp_log.specs.declared.line.Entry.{Entry}
use Rattle.acvp_log.specs.declared.line.Refusal.{Refusal}

-- a moment with its date and time, before the year 10000; behind it, its seconds since 1970
abbrev pub moment_text : ℕ → List ℕ
moment_text moment = if nat_lt moment 253402300800 then time_of moment else decimal moment

-- the order, by the command that gives it
abbrev pub named_command : Order → List ℕ
named_command (order.AddAccount account secret) = codes "account-add"
named_command (order.DisableAccount account) = codes "account-disable"
named_command (order.ApproveRequest request) = codes "request-approve"
named_command (order.RejectRequest request) = codes "request-reject"

-- the number of the account, or of the request, that it names
abbrev pub named_number : Order → ℕ
named_number (order.AddAccount account secret) = account
named_number (order.DisableAccount account) = account
named_number (order.ApproveRequest request) = request
named_number (order.RejectRequest request) = request

-- the number of the vector set that is named, or else that of the test session
abbrev pub subject_of : Wish → Option ℕ
subject_of (wish.Set session set it) = Some set
subject_of (wish.CancelSet session set) = Some set
subject_of (wish.Session session it) = Some session
subject_of (wish.Reviewer session account) = Some session
subject_of (wish.Certify session) = Some session
subject_of _ = None

-- the word of what was asked for, where that is an order
abbrev pub word_asked : Asked → Option (List ℕ)
word_asked (asked.Order word) = Some word.now
word_asked _ = None

-- what a request asks for
abbrev pub action_asked : Option Ask → Asked
action_asked None = asked.Nothing
action_asked (Some request.Login) = asked.Action action.Login
action_asked (Some (request.Caller it)) = asked.Action (action_of_wish it)

abbrev pub subject_asked : Option Ask → Option ℕ
subject_asked None = None
subject_asked (Some request.Login) = None
subject_asked (Some (request.Caller it)) = subject_of it

-- the status of its reply, and what came of it
abbrev pub status_of : Option Rule → ℕ
status_of None = 200
status_of (Some rule) = rule_status rule

abbrev pub came_of : Option Rule → Came Refusal
came_of None = Done
came_of (Some rule) = Refused (record { rule = rule })

-- The line of a request has what is told of it. Nothing is told where its connection broke.
abbrev pub line_of : Option Told → Entry Refusal
line_of None = record {
  account = None;
  asked = asked.Nothing;
  subject = None;
  status = None;
  came = Broken;
  tail = record { unsent = false; because = None };
}
line_of (Some told) = record {
  account = told.account;
  asked = action_asked told.asked;
  subject = subject_asked told.asked;
  status = Some (status_of told.refused);
  came = came_of told.refused;
  tail = record { unsent = false; because = None };
}
