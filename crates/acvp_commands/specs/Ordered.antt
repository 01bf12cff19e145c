-- What an order's line or fault says of the records.
use Rattle.std.specs.Prelude.{◌≡◌, ℕ, Result}
use Rattle.acvp_tables.specs.Meaning.{Meaning}
use Rattle.acvp_desk.specs.declared.order.Order.{Order}
use Rattle.acvp_desk.specs.declared.order.Order.TheVariants.{AddAccount, DisableAccount, ApproveRequest, RejectRequest}
use Rattle.acvp_desk.specs.declared.order.OrderReply.{OrderReply}
use Rattle.acvp_desk.specs.Approvals.{IsSoundApproval}
use Rattle.acvp_desk.specs.Orders.{Orders}
use Rattle.acvp_http.specs.Script.{IsNumber}
use Rattle.acvp_commands.specs.declared.fault.Fault.{Fault}
use Rattle.acvp_commands.specs.declared.lines.Message.{Message}
use Rattle.acvp_commands.specs.Lines.{outcome_of}

-- the order was answered as the desk answers it, a certification approved only if it may be, and the line or the fault
-- is that reply's
abbrev pub IsCarriedOut : {T : Type 0} → Meaning T → Result Message Fault → T → T → Order → Type 0
IsCarriedOut meaning result old new order =
    (reply : OrderReply) × Orders meaning reply old new order × IsSoundApproval meaning reply old new order
    × (result ≡ outcome_of order reply)

-- its numbers are such as a script has
abbrev pub HasShortNumbers : ℕ → Order → Type 0
HasShortNumbers moment (AddAccount account secret) = IsNumber moment
HasShortNumbers moment (DisableAccount account) = IsNumber moment
HasShortNumbers moment (ApproveRequest request) = IsNumber moment × IsNumber request
HasShortNumbers moment (RejectRequest request) = IsNumber moment × IsNumber request
