-- The lines of a script, without their line feeds.
use Rattle.std.specs.Prelude.{◌≡◌, ◌≢◌, ◌≤◌, ℕ, List, [], ◌∷◌, ◌++◌, codes, decimal, ⊤}
use Rattle.acvp_desk.specs.declared.order.Order.{Order}
use Rattle.acvp_desk.specs.declared.order.Order.TheVariants.{AddAccount, DisableAccount, ApproveRequest, RejectRequest}
use Rattle.acvp_http.specs.declared.script.ScriptLine.{ScriptLine}
use Rattle.acvp_http.specs.declared.script.ScriptLine.TheVariants as line
use Rattle.acvp_http.specs.declared.script.Command.{Command}
use Rattle.acvp_http.specs.declared.script.Command.TheVariants as command
use Rattle.acvp_http.specs.Script.{IsNumber, IsAccountNumber, IsSecretText}

-- no byte of the text is this one
abbrev pub Lacks : ℕ → List ℕ → Type 0
Lacks c [] = ⊤
Lacks c (byte ∷ bytes) = (byte ≢ c) × Lacks c bytes

-- a moment, a space and the rest
abbrev pub IsMoment : ℕ → List ℕ → List ℕ → Type 0
IsMoment moment rest text = IsNumber moment × (text ≡ decimal moment ++ 32 ∷ rest)

-- a moment and a number of bytes
abbrev pub IsRequestTail : ℕ → ℕ → List ℕ → Type 0
IsRequestTail moment size text = (size ≤ 4194304) × IsMoment moment (decimal size) text

-- a moment, an account's number and its secret
abbrev pub IsAddTail : ℕ → ℕ → List ℕ → List ℕ → Type 0
IsAddTail moment account secret text =
    IsAccountNumber account
    × ((digits : List ℕ) × IsSecretText digits secret × IsMoment moment (decimal account ++ 32 ∷ digits) text)

-- a moment and an account's number
abbrev pub IsDisableTail : ℕ → ℕ → List ℕ → Type 0
IsDisableTail moment account text = IsAccountNumber account × IsMoment moment (decimal account) text

-- a moment and a request's number
abbrev pub IsDecisionTail : ℕ → ℕ → List ℕ → Type 0
IsDecisionTail moment number text = IsNumber number × IsMoment moment (decimal number) text

-- the command's word
abbrev pub command_word : Command → List ℕ
command_word command.Request = codes "request"
command_word command.AddAccount = codes "account-add"
command_word command.DisableAccount = codes "account-disable"
command_word command.ApproveRequest = codes "request-approve"
command_word command.RejectRequest = codes "request-reject"

-- the order's word, and then the rest of its line
abbrev pub IsOrderLine : ℕ → Order → List ℕ → Type 0
IsOrderLine moment (AddAccount account secret) text =
    (rest : List ℕ) × (text ≡ command_word command.AddAccount ++ 32 ∷ rest) × IsAddTail moment account secret rest
IsOrderLine moment (DisableAccount account) text =
    (rest : List ℕ) × (text ≡ command_word command.DisableAccount ++ 32 ∷ rest) × IsDisableTail moment account rest
IsOrderLine moment (ApproveRequest number) text =
    (rest : List ℕ) × (text ≡ command_word command.ApproveRequest ++ 32 ∷ rest) × IsDecisionTail moment number rest
IsOrderLine moment (RejectRequest number) text =
    (rest : List ℕ) × (text ≡ command_word command.RejectRequest ++ 32 ∷ rest) × IsDecisionTail moment number rest

-- what the line says
abbrev pub IsLine : ScriptLine → List ℕ → Type 0
IsLine (line.Request moment size) text =
    (rest : List ℕ) × (text ≡ command_word command.Request ++ 32 ∷ rest) × IsRequestTail moment size rest
IsLine (line.Order moment order) text = IsOrderLine moment order text
