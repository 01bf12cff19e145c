-- The script: how events are written, and the output of their answers.
use Rattle.std.specs.Prelude.{◌≡◌, ◌≢◌, ℕ, ◌^◌, ◌<◌, ◌≤◌, List, [], ◌∷◌, ◌++◌, length, codes, decimal, Ok}
use Rattle.std.specs.List.{flat_map}
use Rattle.hex.specs.Hex.{decode_of}
use Rattle.acvp_desk.specs.declared.order.Order.TheVariants.{AddAccount, DisableAccount, ApproveRequest, RejectRequest}
use Rattle.acvp_desk.specs.declared.order.OrderReply.{OrderReply}
use Rattle.acvp_desk.specs.declared.order.OrderReply.TheVariants.{Done, Taken, Unknown, NotInitial, Unavailable}
use Rattle.acvp_http.specs.Event.{Event, request, order, EventAnswer, replied, ordered}

-- a number of the script: 1 to 19 digits without leading zeros
abbrev pub IsNumber : ℕ → Type 0
IsNumber n = n < 10 ^ 19

-- an account's number is 1 to 9999
abbrev pub IsAccountNumber : ℕ → Type 0
IsAccountNumber n = (1 ≤ n) × (n ≤ 9999)

-- 64 hex digits that give the secret's 32 bytes
abbrev pub IsSecretText : List ℕ → List ℕ → Type 0
IsSecretText text secret = (length text ≡ 64) × (decode_of text ≡ Ok secret)

-- the most bytes of a request in a script
abbrev pub longest_request : ℕ
longest_request = 4194304

-- the event is written so
abbrev pub IsWritten : Event → List ℕ → Type 0
IsWritten (request moment bytes) text =
    IsNumber moment × (length bytes ≤ longest_request)
    × (text ≡ codes "request " ++ decimal moment ++ codes " " ++ decimal (length bytes) ++ codes "\n" ++ bytes
    ++ codes "\n")
IsWritten (order moment (AddAccount account secret)) text =
    IsNumber moment × IsAccountNumber account
    × ((digits : List ℕ) × IsSecretText digits secret
    × (text ≡ codes "account-add " ++ decimal moment ++ codes " " ++ decimal account ++ codes " " ++ digits
    ++ codes "\n"))
IsWritten (order moment (DisableAccount account)) text =
    IsNumber moment × IsAccountNumber account
    × (text ≡ codes "account-disable " ++ decimal moment ++ codes " " ++ decimal account ++ codes "\n")
IsWritten (order moment (ApproveRequest number)) text =
    IsNumber moment × IsNumber number
    × (text ≡ codes "request-approve " ++ decimal moment ++ codes " " ++ decimal number ++ codes "\n")
IsWritten (order moment (RejectRequest number)) text =
    IsNumber moment × IsNumber number
    × (text ≡ codes "request-reject " ++ decimal moment ++ codes " " ++ decimal number ++ codes "\n")

-- the text is these events, one after another
abbrev pub IsScript : List Event → List ℕ → Type 0
IsScript [] text = text ≡ []
IsScript (event ∷ events) text =
    (front : List ℕ) × (rest : List ℕ) × (text ≡ front ++ rest) × IsWritten event front × IsScript events rest

-- no event stands whole at the front of the bytes
abbrev pub HasNoEvent : List ℕ → Type 0
HasNoEvent bytes = (event : Event) (front more : List ℕ) → IsWritten event front → bytes ≡ front ++ more → ⊥

-- there is input, and no event stands whole at its front
abbrev pub LeavesGrammar : List ℕ → Type 0
LeavesGrammar rest = (rest ≢ []) × HasNoEvent rest

-- an order's word
abbrev pub order_word : OrderReply → List ℕ
order_word (Done approved) = codes "done"
order_word Taken = codes "taken"
order_word Unknown = codes "unknown"
order_word NotInitial = codes "notInitial"
order_word Unavailable = codes "unavailable"

-- what is written for an answer
abbrev pub answer_text : EventAnswer → List ℕ
answer_text (replied bytes) = codes "reply " ++ decimal (length bytes) ++ codes "\n" ++ bytes ++ codes "\n"
answer_text (ordered reply) = codes "order " ++ order_word reply ++ codes "\n"

abbrev pub output_of : List EventAnswer → List ℕ
output_of answers = flat_map answer_text answers
