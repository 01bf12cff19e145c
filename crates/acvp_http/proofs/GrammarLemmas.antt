-- Lemmas on input that leaves the grammar of scripts.
use Rattle.std.proofs.Common.{◌≡◌, ◌≢◌, ℕ, List, [], ◌∷◌, ◌++◌, length, decimal, Option, Some, None, IfSome, arith, sym}
use Rattle.std.proofs.Common.{◌∙◌, ap, refl, append_assoc, append-nil, length-append}
use Rattle.std.specs.Io.KnownBytes.{Consumes}
use Rattle.acvp_desk.specs.declared.order.Order.{Order}
use Rattle.acvp_desk.specs.declared.order.Order.TheVariants as kind
use Rattle.acvp_http.specs.declared.script.Command.TheVariants as command
use Rattle.acvp_http.specs.declared.script.ScriptLine.{ScriptLine}
use Rattle.acvp_http.specs.declared.script.ScriptLine.TheVariants as line
use Rattle.acvp_http.specs.declared.script.ScriptFault.{ScriptFault}
use Rattle.acvp_http.specs.declared.script.ScriptFault.TheVariants.{Read, Write, Syntax, Limit, Memory}
use Rattle.acvp_http.specs.Event.{request, order}
use Rattle.acvp_http.specs.Private.Lines.{Lacks, IsLine, command_word}
use Rattle.acvp_http.specs.Private.Reading.{HasNoLine, HasNoBody, TakesPart, StopsLine, StopsBody, StopsEvent}
use Rattle.acvp_http.specs.Script.{HasNoEvent, LeavesGrammar}
use Rattle.acvp_http.specs.Source.{InputStream, Gives}
use Rattle.acvp_http.proofs.KnownLemmas.{consumes_consumes}
use Rattle.acvp_http.proofs.LineLemmas.{not_lacks, cut_same, word_is, same_moment, word_lacks}
use Rattle.std.proofs.lemmas.Fmt.{decimal_injective}
use Rattle.acvp_http.proofs.EventLemmas.{event_front, line_lacks, line_short, request_parts, order_parts}

-- some input
not_empty : (xs text rest : List ℕ) → xs ≡ (text ++ 10 ∷ []) ++ rest → xs ≢ []
not_empty xs text rest is none =
    let size : length ((text ++ 10 ∷ []) ++ rest) ≡ length {A = ℕ} [] = ap length (sym is ∙ none) in
    omega (arith, length-append (text ++ 10 ∷ []) rest, length-append text (10 ∷ []))

-- no line feed, so no event
pub no_event_lacks : (part : List ℕ) → Lacks 10 part → HasNoEvent part
no_event_lacks part lacks = λ e front more written is.
    let (said, text, tail, line, front-is) = event_front e front written in
    let whole : part ≡ text ++ 10 ∷ (tail ++ more) = is ∙ ap (λ f. f ++ more) front-is
    ∙ append_assoc text (10 ∷ tail) more in
    not_lacks 10 text (tail ++ more) (rw whole at lacks)

-- no line, so no event
leaves_without_line : (xs : List ℕ) → HasNoLine xs → LeavesGrammar xs
leaves_without_line xs none = (
  none.0,
  λ e front more written is.
      let (said, text, tail, line, front-is) = event_front e front written in
      none.1 text (tail ++ more) (line_short said text line) (line_lacks said text line)
      (is ∙ ap (λ f. f ++ more) front-is ∙ append_assoc text (10 ∷ tail) more),
)

pub no_line_leaves : (held : Option (List ℕ)) → IfSome held HasNoLine → IfSome held LeavesGrammar
no_line_leaves None none = tt
no_line_leaves (Some xs) none = leaves_without_line xs none

-- an event's line is the input's line
line_at_front : (xs text rest said-text tail more front : List ℕ) → Lacks 10 text → Lacks 10 said-text
    → xs ≡ (text ++ 10 ∷ []) ++ rest → front ≡ said-text ++ 10 ∷ tail → xs ≡ front ++ more →
    (text ≡ said-text) × (rest ≡ tail ++ more)
line_at_front xs text rest said-text tail more front lacks lacks' is front-is is' =
    let left : xs ≡ text ++ 10 ∷ rest = is ∙ append_assoc text (10 ∷ []) rest in
    let right : xs ≡ said-text ++ 10 ∷ (tail ++ more) = is' ∙ rw front-is (append_assoc said-text (10 ∷ tail) more) in
    cut_same 10 text rest said-text (tail ++ more) lacks lacks' (sym left ∙ right)

-- a line that says nothing, so no event
nothing_said : (xs ys text : List ℕ) → xs ≡ (text ++ 10 ∷ []) ++ ys → Lacks 10 text
    → ((said : ScriptLine) → IsLine said text → ⊥) → HasNoEvent xs
nothing_said xs ys text consumed lacks none = λ e front more written is.
    let (said, said-text, tail, line, front-is) = event_front e front written in
    let same : text ≡ said-text =
    (line_at_front xs text ys said-text tail more front lacks
    (line_lacks said said-text line) consumed front-is is).0 in
    none said (rw same line)

pub no_line_said : (a b : Option (List ℕ)) (text : List ℕ) → Consumes a b (text ++ 10 ∷ []) → Lacks 10 text
    → ((said : ScriptLine) → IsLine said text → ⊥) → IfSome a LeavesGrammar
no_line_said None b text consumed lacks none = tt
no_line_said (Some xs) None text consumed lacks none = absurd consumed
no_line_said (Some xs) (Some ys) text consumed lacks none =
    (not_empty xs text ys consumed, nothing_said xs ys text consumed lacks none)

pub nothing_said_alone : (text : List ℕ) → Lacks 10 text → ((said : ScriptLine) → IsLine said text → ⊥)
    → HasNoEvent (text ++ 10 ∷ [])
nothing_said_alone text lacks none =
    nothing_said (text ++ 10 ∷ []) [] text (sym (append-nil (text ++ 10 ∷ []))) lacks none

empty_list : (text : List ℕ) → length text ≡ 0 → text ≡ []
empty_list [] none = refl
empty_list (x ∷ text) none = absurd (omega arith)

no_gap : (word rest : List ℕ) → [] ≡ word ++ 32 ∷ rest → ⊥
no_gap word rest is =
    let size : length {A = ℕ} [] ≡ length (word ++ 32 ∷ rest) = ap length is in
    omega (arith, length-append word (32 ∷ rest))

-- one byte is no event
no_line_empty : (said : ScriptLine) → IsLine said [] → ⊥
no_line_empty (line.Request m n) (rest, is, tail) = no_gap (command_word command.Request) rest is
no_line_empty (line.Order m (kind.AddAccount account secret)) (rest, is, tail) =
    no_gap (command_word command.AddAccount) rest is
no_line_empty (line.Order m (kind.DisableAccount account)) (rest, is, tail) =
    no_gap (command_word command.DisableAccount) rest is
no_line_empty (line.Order m (kind.ApproveRequest decided)) (rest, is, tail) =
    no_gap (command_word command.ApproveRequest) rest is
no_line_empty (line.Order m (kind.RejectRequest decided)) (rest, is, tail) =
    no_gap (command_word command.RejectRequest) rest is

pub no_event_byte : (byte : ℕ) → HasNoEvent (byte ∷ [])
no_event_byte byte = λ e front more written is.
    let (said, text, tail, line, front-is) = event_front e front written in
    let whole : byte ∷ [] ≡ text ++ 10 ∷ (tail ++ more) = is ∙ ap (λ f. f ++ more) front-is
    ∙ append_assoc text (10 ∷ tail) more in
    let size : length (byte ∷ []) ≡ length (text ++ 10 ∷ (tail ++ more)) = ap length whole in
    let empty : length text ≡ 0 = omega (arith, length-append text (10 ∷ (tail ++ more))) in
    no_line_empty said (rw (empty_list text empty) at line)

-- one line doesn't say two sizes
one_size : (text : List ℕ) (m n m' n' : ℕ) → IsLine (line.Request m n) text → IsLine (line.Request m' n') text → n ≡ n'
one_size text m n m' n' (rest, is, (few, moment)) (rest', is', (few', moment')) =
    let same : rest ≡ rest' =
    (word_is text (command_word command.Request) rest rest' command.Request (
      word_lacks command.Request,
      is,
    ) is').1 in
    decimal_injective n n' (omega arith) (omega arith)
    (same_moment rest' (decimal n) (decimal n') m m' (rw (← same) moment) moment').1

-- a request's line is no order's
not_order : (text : List ℕ) (m n m' : ℕ) (o : Order) → IsLine (line.Request m n) text → IsLine (line.Order m' o) text
    → ⊥
not_order text m n m' (kind.AddAccount account secret) (rest, is, tail) (rest', is', tail') =
    let same : command_word command.Request ≡ command_word command.AddAccount =
    (word_is text (command_word command.Request) rest rest' command.AddAccount (
      word_lacks command.Request,
      is,
    ) is').0 in cc
not_order text m n m' (kind.DisableAccount account) (rest, is, tail) (rest', is', tail') =
    let same : command_word command.Request ≡ command_word command.DisableAccount =
    (word_is text (command_word command.Request) rest rest' command.DisableAccount (
      word_lacks command.Request,
      is,
    ) is').0 in cc
not_order text m n m' (kind.ApproveRequest decided) (rest, is, tail) (rest', is', tail') =
    let same : command_word command.Request ≡ command_word command.ApproveRequest =
    (word_is text (command_word command.Request) rest rest' command.ApproveRequest (
      word_lacks command.Request,
      is,
    ) is').0 in cc
not_order text m n m' (kind.RejectRequest decided) (rest, is, tail) (rest', is', tail') =
    let same : command_word command.Request ≡ command_word command.RejectRequest =
    (word_is text (command_word command.Request) rest rest' command.RejectRequest (
      word_lacks command.Request,
      is,
    ) is').0 in cc

-- a request's line without its bytes
no_bytes : (xs ys text : List ℕ) (m n : ℕ) → xs ≡ (text ++ 10 ∷ []) ++ ys → IsLine (line.Request m n) text
    → HasNoBody n ys → HasNoEvent xs
no_bytes xs ys text m n consumed says none (request m' bytes) front more written is =
    let (said-text, line', front-is) = request_parts m' bytes front written in
    let same = line_at_front xs text ys said-text (bytes ++ 10
    ∷ []) more front (line_lacks (line.Request m n) text says)
    (line_lacks (line.Request m' (length bytes)) said-text line') consumed front-is is in
    let same-text : text ≡ said-text = same.0 in
    none bytes more (one_size said-text m' (length bytes) m n line' (rw (← same-text) says)) (same.1
    ∙ append_assoc bytes (10 ∷ []) more)
no_bytes xs ys text m n consumed says none (order m' o) front more written is =
    let (said-text, line', front-is) = order_parts m' o front written in
    let same = line_at_front xs text ys said-text [] more front (line_lacks (line.Request m n) text says)
    (line_lacks (line.Order m' o) said-text line') consumed front-is is in
    let same-text : text ≡ said-text = same.0 in
    not_order said-text m n m' o (rw (← same-text) says) line'

pub no_body_said : (a b : Option (List ℕ)) (text : List ℕ) (m n : ℕ) → Consumes a b (text ++ 10 ∷ [])
    → IsLine (line.Request m n) text → IfSome b (HasNoBody n) → IfSome a LeavesGrammar
no_body_said None b text m n consumed line none = tt
no_body_said (Some xs) None text m n consumed line none = absurd consumed
no_body_said (Some xs) (Some ys) text m n consumed line none =
    (not_empty xs text ys consumed, no_bytes xs ys text m n consumed line none)

pub no_bytes_alone : (text part : List ℕ) (m n : ℕ) → IsLine (line.Request m n) text → HasNoBody n part
    → HasNoEvent ((text ++ 10 ∷ []) ++ part)
no_bytes_alone text part m n says none = no_bytes ((text ++ 10 ∷ []) ++ part) part text m n refl says none

-- why no line was read is why no event was
pub stops_line : (a b : InputStream) (fault : ScriptFault) (limit : ℕ) → StopsLine a fault b limit
    × TakesPart a b (Lacks 10)
    → StopsEvent a fault b limit × TakesPart a b HasNoEvent
stops_line a b Read limit (stops, (part, taken, lacks)) = (stops, (part, taken, no_event_lacks part lacks))
stops_line a b Write limit (stops, taken) = absurd stops
stops_line a b Syntax limit (stops, (part, taken, lacks)) =
    ((stops.0, no_line_leaves a.held stops.1), (part, taken, no_event_lacks part lacks))
stops_line a b Limit limit (stops, (part, taken, lacks)) = (stops, (part, taken, no_event_lacks part lacks))
stops_line a b Memory limit (stops, taken) = absurd stops

-- why no bytes were read after a request's line is why no event was
stops_body_part : (a b c : InputStream) (text : List ℕ) (m n : ℕ) → Gives a b (text ++ 10 ∷ [])
    → IsLine (line.Request m n) text → TakesPart b c (HasNoBody n) → TakesPart a c HasNoEvent
stops_body_part a b c text m n consumed says (part, taken, none) = (
  (text ++ 10 ∷ []) ++ part,
  consumes_consumes a.held b.held c.held (text ++ 10 ∷ []) part consumed taken,
  no_bytes_alone text part m n says none,
)

pub stops_body : (a b c : InputStream) (text : List ℕ) (m n : ℕ) (fault : ScriptFault) (limit : ℕ)
    → Gives a b (text ++ 10 ∷ [])
    → IsLine (line.Request m n) text → StopsBody n b fault c limit × TakesPart b c (HasNoBody n)
    → StopsEvent a fault c limit × TakesPart a c HasNoEvent
stops_body a b c text m n Read limit consumed line (stops, taken) =
    (stops, stops_body_part a b c text m n consumed line taken)
stops_body a b c text m n Write limit consumed line (stops, taken) = absurd stops
stops_body a b c text m n Syntax limit consumed line (stops, taken) = (
  (stops.0, no_body_said a.held b.held text m n consumed line stops.1),
  stops_body_part a b c text m n consumed line taken,
)
stops_body a b c text m n Limit limit consumed line (stops, taken) =
    (stops, stops_body_part a b c text m n consumed line taken)
stops_body a b c text m n Memory limit consumed line (stops, taken) =
    (stops, stops_body_part a b c text m n consumed line taken)
