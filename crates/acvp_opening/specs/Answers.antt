-- What the server that has a database answers to an order.
use Rattle.std.specs.Prelude.{◌≡◌, ◌==◌, ◌↔◌, ℕ, Bool, true, false, List, codes, Option, Some, None, string_bytes}
use Rattle.std.specs.List.{starts_with}
use Rattle.acvp_commands.specs.declared.fault.Fault.{Fault}
use Rattle.acvp_commands.specs.declared.fault.Fault.TheVariants.{Taken, Unknown, NotInitial, Unavailable, Memory}
use Rattle.acvp_opening.specs.declared.answers.Answer.{Answer}
use Rattle.acvp_opening.specs.declared.answers.Answer.TheVariants.{Done, Refused}

-- the line says that the order isn't done
abbrev pub is_refusal : List ℕ → Bool
is_refusal line = starts_with (λ a b. a == b) line (codes "fault: ")

-- the line of a fault that an order can have
abbrev pub line_of_fault : Fault → Option (List ℕ)
line_of_fault Taken = Some (codes "fault: taken")
line_of_fault Unknown = Some (codes "fault: unknown")
line_of_fault NotInitial = Some (codes "fault: notInitial")
line_of_fault Unavailable = Some (codes "fault: unavailable")
line_of_fault Memory = Some (codes "fault: memory")
line_of_fault _ = None

-- this is the fault whose line it is, if it is the line of one
abbrev pub IsFaultOf : List ℕ → Option Fault → Type 0
IsFaultOf line found = (fault : Fault) → (line_of_fault fault ≡ Some line) ↔ (found ≡ Some fault)

-- a line means that the order is done, or that it isn't, and for which fault
abbrev pub Means : List ℕ → Answer → Type 0
Means line (Done text) = (string_bytes text ≡ line) × (is_refusal line ≡ false)
Means line (Refused text fault) = (string_bytes text ≡ line) × (is_refusal line ≡ true) × IsFaultOf line fault
