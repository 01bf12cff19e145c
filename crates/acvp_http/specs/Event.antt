-- What happens to the server, and what is answered.
use Rattle.std.specs.Prelude.{ℕ, List, Bool, ⊤}
use Rattle.acvp_desk.specs.Orders.{IsOrder, HasSecret}
use Rattle.acvp_desk.specs.declared.order.Order.{Order}
use Rattle.acvp_desk.specs.declared.order.OrderReply.{OrderReply}

-- a request's bytes or an operator's order, at a moment in seconds since 1970
pub data Event : Type 0 where
  request : ℕ → List ℕ → Event
  order : ℕ → Order → Event

-- any bytes may come as a request, but an order names an account that can be, and a secret of 32 bytes
abbrev pub CanHappen : Event → Type 0
CanHappen (request moment bytes) = ⊤
CanHappen (order moment o) = IsOrder o × HasSecret o

-- the bytes of a reply, or the reply to an order
pub data EventAnswer : Type 0 where
  replied : List ℕ → EventAnswer
  ordered : OrderReply → EventAnswer

-- an event, and whether it was unavailable
pub record Turn : Type 0 where
  pub event : Event
  pub unavailable : Bool
