-- Lemmas on how an event is written.
use Rattle.std.proofs.Common.{◌≡◌, ◌≢◌, ◌<◌, ◌≤◌, ◌+◌, ℕ, suc, true, List, [], ◌∷◌, ◌++◌, length, get_or, codes}
use Rattle.std.proofs.Common.{decimal, arith, rules, sym, ◌∙◌, ap, refl, append_assoc, length-append}
use Rattle.std.proofs.lemmas.Fmt.{length-decimal-le}
use Rattle.hex.specs.Hex.{is_hex_digit}
use Rattle.hex.proofs.HexLemmas.{decode_of-ok}
use Rattle.acvp_desk.specs.declared.order.Order.{Order}
use Rattle.acvp_desk.specs.declared.order.Order.TheVariants as kind
use Rattle.acvp_http.specs.declared.script.Command.{Command}
use Rattle.acvp_http.specs.declared.script.Command.TheVariants as command
use Rattle.acvp_http.specs.declared.script.ScriptLine.{ScriptLine}
use Rattle.acvp_http.specs.declared.script.ScriptLine.TheVariants as line
use Rattle.acvp_http.specs.Event.{Event, request, order}
use Rattle.acvp_http.specs.Private.Lines.{Lacks, IsMoment, IsLine, command_word}
use Rattle.acvp_http.specs.Script.{IsSecretText, IsWritten}
use Rattle.acvp_http.proofs.LineLemmas.{lacks_append, decimal_lacks}

-- texts grouped otherwise
regroup_request : (d e b : List ℕ) → ((((d ++ 32 ∷ []) ++ e) ++ 10 ∷ []) ++ b) ++ 10 ∷ [] ≡ (d ++ 32 ∷ e) ++ 10
    ∷ (b ++ 10 ∷ [])
regroup_request d e b = simp append_assoc

regroup_add : (d e h : List ℕ) → (((((d ++ 32 ∷ []) ++ e) ++ 32 ∷ []) ++ h) ++ 10 ∷ []) ≡ (d ++ 32 ∷ (e ++ 32 ∷ h))
    ++ 10 ∷ []
regroup_add d e h = simp append_assoc

regroup_number : (d e : List ℕ) → (((d ++ 32 ∷ []) ++ e) ++ 10 ∷ []) ≡ (d ++ 32 ∷ e) ++ 10 ∷ []
regroup_number d e = simp append_assoc

-- the line of a request, and its bytes
pub request_parts : (m : ℕ) (bytes front : List ℕ) → IsWritten (request m bytes) front →
    (text : List ℕ) × IsLine (line.Request m (length bytes)) text × (front ≡ text ++ 10 ∷ (bytes ++ 10 ∷ []))
request_parts m bytes front written = (
  codes "request" ++ 32 ∷ (decimal m ++ 32 ∷ decimal (length bytes)),
  (decimal m ++ 32 ∷ decimal (length bytes), refl, (written.1, (written.0, refl))),
  written.2 ∙ ap (λ rest. codes "request " ++ rest) (regroup_request (decimal m) (decimal (length bytes)) bytes),
)

-- the line of an order
pub order_parts : (m : ℕ) (o : Order) (front : List ℕ) → IsWritten (order m o) front →
    (text : List ℕ) × IsLine (line.Order m o) text × (front ≡ text ++ 10 ∷ [])
order_parts m (kind.AddAccount account secret) front (number, named, (digits, hex, is)) = (
  codes "account-add" ++ 32 ∷ (decimal m ++ 32 ∷ (decimal account ++ 32 ∷ digits)),
  (decimal m ++ 32 ∷ (decimal account ++ 32 ∷ digits), refl, (named, (digits, hex, (number, refl)))),
  is ∙ ap (λ rest. codes "account-add " ++ rest) (regroup_add (decimal m) (decimal account) digits),
)
order_parts m (kind.DisableAccount account) front (number, named, is) = (
  codes "account-disable" ++ 32 ∷ (decimal m ++ 32 ∷ decimal account),
  (decimal m ++ 32 ∷ decimal account, refl, (named, (number, refl))),
  is ∙ ap (λ rest. codes "account-disable " ++ rest) (regroup_number (decimal m) (decimal account)),
)
order_parts m (kind.ApproveRequest decided) front (number, named, is) = (
  codes "request-approve" ++ 32 ∷ (decimal m ++ 32 ∷ decimal decided),
  (decimal m ++ 32 ∷ decimal decided, refl, (named, (number, refl))),
  is ∙ ap (λ rest. codes "request-approve " ++ rest) (regroup_number (decimal m) (decimal decided)),
)
order_parts m (kind.RejectRequest decided) front (number, named, is) = (
  codes "request-reject" ++ 32 ∷ (decimal m ++ 32 ∷ decimal decided),
  (decimal m ++ 32 ∷ decimal decided, refl, (named, (number, refl))),
  is ∙ ap (λ rest. codes "request-reject " ++ rest) (regroup_number (decimal m) (decimal decided)),
)

-- a request's line, its bytes and their line feeds are the request, written
pub request_written : (m n : ℕ) (bytes text : List ℕ) → length bytes ≡ n → IsLine (line.Request m n) text
    → IsWritten (request m bytes) ((text ++ 10 ∷ []) ++ (bytes ++ 10 ∷ []))
request_written m n bytes text size (rest, is, (few, (number, is'))) = (
  number,
  rw size few,
  rw (is, is', ← size) (append_assoc (codes "request" ++ 32 ∷ (decimal m ++ 32 ∷ decimal (length bytes))) (10
      ∷ []) (bytes ++ 10 ∷ [])
      ∙ sym (ap (λ rest. codes "request " ++ rest) (regroup_request (decimal m) (decimal (length bytes)) bytes))),
)

-- hex digits are no line feeds
lacks_all : (c : ℕ) (xs : List ℕ) → ((k : ℕ) → k < length xs → get_or xs k 0 ≢ c) → Lacks c xs
lacks_all c [] all = tt
lacks_all c (x ∷ xs) all = (all 0 (omega arith), lacks_all c xs (λ k low. all (suc k) (omega arith)))

not_hex_ten : (c : ℕ) → is_hex_digit c ≡ true → c ≢ 10
not_hex_ten c digit is = let ten : is_hex_digit 10 ≡ true = rw is at digit in cc

secret_lacks : (digits secret : List ℕ) → IsSecretText digits secret → Lacks 10 digits
secret_lacks digits secret hex =
    let pass = (decode_of-ok digits secret hex.1).1 in
    lacks_all 10 digits (λ k low. not_hex_ten (get_or digits k 0) (pass k 0 low))

moment_lacks : (m : ℕ) (rest text : List ℕ) → IsMoment m rest text → Lacks 10 rest → Lacks 10 text
moment_lacks m rest text is lacks =
    rw is.1 (lacks_append 10 (decimal m) (32 ∷ rest) (decimal_lacks 10 m (omega arith) is.0) (
      (λ same. omega arith),
      lacks,
    ))

word_lacks_ten : (w : Command) → Lacks 10 (command_word w)
word_lacks_ten command.Request = search rules
word_lacks_ten _ = search rules

after_word_lacks : (w : Command) (rest text : List ℕ) → text ≡ command_word w ++ 32 ∷ rest → Lacks 10 rest
    → Lacks 10 text
after_word_lacks w rest text is lacks =
    rw is (lacks_append 10 (command_word w) (32 ∷ rest) (word_lacks_ten w) ((λ same. omega arith), lacks))

-- a line has no line feed
pub line_lacks : (said : ScriptLine) (text : List ℕ) → IsLine said text → Lacks 10 text
line_lacks (line.Request m n) text (rest, is, (few, moment)) =
    after_word_lacks command.Request rest text is
    (moment_lacks m (decimal n) rest moment (decimal_lacks 10 n (omega arith) (omega arith)))
line_lacks (line.Order m (kind.AddAccount account secret)) text (rest, is, (named, (digits, hex, moment))) =
    after_word_lacks command.AddAccount rest text is
    (moment_lacks m (decimal account ++ 32 ∷ digits) rest moment
    (lacks_append 10 (decimal account) (32 ∷ digits) (decimal_lacks 10 account (omega arith) (omega (arith, named)))
    ((λ same. omega arith), secret_lacks digits secret hex)))
line_lacks (line.Order m (kind.DisableAccount account)) text (rest, is, (named, moment)) =
    after_word_lacks command.DisableAccount rest text is
    (moment_lacks m (decimal account) rest moment (decimal_lacks 10 account (omega arith) (omega (arith, named))))
line_lacks (line.Order m (kind.ApproveRequest decided)) text (rest, is, (named, moment)) =
    after_word_lacks command.ApproveRequest rest text is
    (moment_lacks m (decimal decided) rest moment (decimal_lacks 10 decided (omega arith) named))
line_lacks (line.Order m (kind.RejectRequest decided)) text (rest, is, (named, moment)) =
    after_word_lacks command.RejectRequest rest text is
    (moment_lacks m (decimal decided) rest moment (decimal_lacks 10 decided (omega arith) named))

length_moment : (m : ℕ) (rest text : List ℕ) → IsMoment m rest text → length text ≤ 20 + length rest
length_moment m rest text is =
    let few : length (decimal m) ≤ 19 = length-decimal-le 19 m (omega arith) is.0 (omega (arith, is.0)) in
    rw is.1 (omega (arith, length-append (decimal m) (32 ∷ rest)))

-- a line's length
pub line_short : (said : ScriptLine) (text : List ℕ) → IsLine said text → length text ≤ 101
line_short (line.Request m n) text (rest, is, (few, moment)) =
    let low : length (decimal n) ≤ 7 = length-decimal-le 7 n (omega arith) (omega arith) (omega arith) in
    let tail = length_moment m (decimal n) rest moment in
    rw is (omega arith)
line_short (line.Order m (kind.AddAccount account secret)) text (rest, is, (named, (digits, hex, moment))) =
    let low : length (decimal account) ≤ 4 =
    length-decimal-le 4 account (omega arith) (omega (arith, named)) (omega (arith, named)) in
    let tail = length_moment m (decimal account ++ 32 ∷ digits) rest moment in
    rw is (omega (arith, length-append (decimal account) (32 ∷ digits), hex.0))
line_short (line.Order m (kind.DisableAccount account)) text (rest, is, (named, moment)) =
    let low : length (decimal account) ≤ 4 =
    length-decimal-le 4 account (omega arith) (omega (arith, named)) (omega (arith, named)) in
    let tail = length_moment m (decimal account) rest moment in
    rw is (omega arith)
line_short (line.Order m (kind.ApproveRequest decided)) text (rest, is, (named, moment)) =
    let low : length (decimal decided) ≤ 19 = length-decimal-le 19 decided (omega arith) named (omega (arith, named)) in
    let tail = length_moment m (decimal decided) rest moment in
    rw is (omega arith)
line_short (line.Order m (kind.RejectRequest decided)) text (rest, is, (named, moment)) =
    let low : length (decimal decided) ≤ 19 = length-decimal-le 19 decided (omega arith) named (omega (arith, named)) in
    let tail = length_moment m (decimal decided) rest moment in
    rw is (omega arith)

-- an event's text begins with its line
pub event_front : (e : Event) (front : List ℕ) → IsWritten e front → (said : ScriptLine) × (text : List ℕ)
    × (tail : List ℕ)
    × IsLine said text × (front ≡ text ++ 10 ∷ tail)
event_front (request m bytes) front written =
    let parts = request_parts m bytes front written in
    (line.Request m (length bytes), parts.0, bytes ++ 10 ∷ [], parts.1, parts.2)
event_front (order m o) front written =
    let parts = order_parts m o front written in
    (line.Order m o, parts.0, [], parts.1, parts.2)

-- an order's line and its line feed are the order, written
pub order_written : (m : ℕ) (o : Order) (text : List ℕ) → IsLine (line.Order m o) text
    → IsWritten (order m o) (text ++ 10 ∷ [])
order_written m (kind.AddAccount account secret) text (rest, is, (named, (digits, hex, (number, is')))) = (
  number,
  named,
  (
    digits,
    hex,
    rw (is, is') (sym (ap (λ more. codes "account-add " ++ more)
        (regroup_add (decimal m) (decimal account) digits))),
  ),
)
order_written m (kind.DisableAccount account) text (rest, is, (named, (number, is'))) = (
  number,
  named,
  rw (is, is')
      (sym (ap (λ more. codes "account-disable " ++ more) (regroup_number (decimal m) (decimal account)))),
)
order_written m (kind.ApproveRequest decided) text (rest, is, (named, (number, is'))) = (
  number,
  named,
  rw (is, is')
      (sym (ap (λ more. codes "request-approve " ++ more) (regroup_number (decimal m) (decimal decided)))),
)
order_written m (kind.RejectRequest decided) text (rest, is, (named, (number, is'))) = (
  number,
  named,
  rw (is, is')
      (sym (ap (λ more. codes "request-reject " ++ more) (regroup_number (decimal m) (decimal decided)))),
)
