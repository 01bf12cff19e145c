-- What the commands print, and what an order's reply is told as.
use Rattle.std.specs.Prelude.{ℕ, List, ◌++◌, codes, decimal, Option, Some, None, Result, Ok, Err, unwrap_or}
use Rattle.acvp_registry.specs.Url.{url_of}
use Rattle.acvp_registry.specs.declared.kind.Kind.{Kind}
use Rattle.acvp_desk.specs.declared.order.Order.{Order}
use Rattle.acvp_desk.specs.declared.order.Order.TheVariants.{AddAccount, DisableAccount, ApproveRequest, RejectRequest}
use Rattle.acvp_desk.specs.declared.order.OrderReply.{OrderReply}
use Rattle.acvp_desk.specs.declared.order.OrderReply.TheVariants as reply
use Rattle.acvp_commands.specs.declared.fault.Fault.{Fault}
use Rattle.acvp_commands.specs.declared.fault.Fault.TheVariants as fault
use Rattle.acvp_commands.specs.declared.lines.Message.{Message}
use Rattle.acvp_commands.specs.declared.lines.Message.TheVariants.{Ready, Migrated, Added, Disabled, Approved, Rejected}
use Rattle.acvp_commands.specs.declared.lines.Message.TheVariants.{Listening, Served}

-- the URL of what was approved: of an object of the registries, or of the test session that is certified
abbrev pub approved_url : Kind → ℕ → List ℕ
approved_url kind n = unwrap_or (url_of kind n) (codes "/acvp/v1/testSessions/" ++ decimal n)

-- the line, without its line feed
abbrev pub line_text : Message → List ℕ
line_text Ready = codes "ready"
line_text Migrated = codes "schema 3"
line_text (Added account) = codes "account " ++ decimal account ++ codes " added"
line_text (Disabled account) = codes "account " ++ decimal account ++ codes " disabled"
line_text (Approved request kind n) = (codes "request " ++ decimal request ++ codes " approved ") ++ approved_url kind n
line_text (Rejected request) = codes "request " ++ decimal request ++ codes " rejected"
line_text (Listening port) = codes "listening 127.0.0.1:" ++ decimal port
line_text (Served count) = codes "served " ++ decimal count

-- the line of an order that is done; none of an approval that doesn't say what it gave
abbrev pub line_of_done : Order → Option (Kind × ℕ) → Option Message
line_of_done (AddAccount account secret) given = Some (Added account)
line_of_done (DisableAccount account) given = Some (Disabled account)
line_of_done (ApproveRequest request) (Some given) = Some (Approved request given.0 given.1)
line_of_done (ApproveRequest request) None = None
line_of_done (RejectRequest request) given = Some (Rejected request)

abbrev pub line_or_unavailable : Option Message → Result Message Fault
line_or_unavailable (Some line) = Ok line
line_or_unavailable None = Err fault.Unavailable

-- what the reply to an order is told as: the line of what is done, or the reply's own word
abbrev pub outcome_of : Order → OrderReply → Result Message Fault
outcome_of order (reply.Done given) = line_or_unavailable (line_of_done order given)
outcome_of order reply.Taken = Err fault.Taken
outcome_of order reply.Unknown = Err fault.Unknown
outcome_of order reply.NotInitial = Err fault.NotInitial
outcome_of order reply.Unavailable = Err fault.Unavailable
