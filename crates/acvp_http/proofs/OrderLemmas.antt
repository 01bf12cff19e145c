-- Lemmas on a text that is an order.
use Rattle.std.proofs.Common.{◌≡◌, ◌≢◌, ◌+◌, ℕ, List, [], ◌∷◌, ◌++◌, length, arith, sym, ◌∙◌, ap, length-append}
use Rattle.acvp_desk.specs.declared.order.Order.{Order}
use Rattle.acvp_desk.specs.declared.order.Order.TheVariants as kind
use Rattle.acvp_http.specs.declared.script.Command.TheVariants as command
use Rattle.acvp_http.specs.declared.script.ScriptLine.{ScriptLine}
use Rattle.acvp_http.specs.declared.script.ScriptLine.TheVariants as line
use Rattle.acvp_http.specs.Event.{order}
use Rattle.acvp_http.specs.Private.Lines.{IsLine, command_word}
use Rattle.acvp_http.specs.Script.{IsWritten}
use Rattle.acvp_http.proofs.EventLemmas.{order_parts}
use Rattle.acvp_http.proofs.LineLemmas.{word_is, word_lacks}
use Rattle.acvp_http.proofs.ReadLineLemmas.{same_fronts}

-- a text has one line before its last line feed
same_line : (text a b : List ℕ) → text ≡ a ++ 10 ∷ [] → text ≡ b ++ 10 ∷ [] → a ≡ b
same_line text a b is is' =
    let both = sym is ∙ is' in
    (same_fronts a (10 ∷ []) b (10 ∷ [])
    (omega (arith, length-append a (10 ∷ []), length-append b (10 ∷ []), ap length both)) both).0

-- no order is written without a line feed at its end
pub no_order_unended : (text : List ℕ) → ((front : List ℕ) → text ≢ front ++ 10 ∷ []) → (m : ℕ) (o : Order)
    → IsWritten (order m o) text → ⊥
no_order_unended text unended m o written = let (front, is, ends) = order_parts m o text written in unended front ends

-- nor one whose line says nothing
pub no_order_unsaid : (text said : List ℕ) → text ≡ said ++ 10 ∷ [] → ((other : ScriptLine) → IsLine other said → ⊥)
    → (m : ℕ) (o : Order) → IsWritten (order m o) text → ⊥
no_order_unsaid text said ends none m o written =
    let (front, is, ends') = order_parts m o text written in
    none (line.Order m o) (rw (same_line text said front ends ends') is)

-- a line that says a request says no order
not_both : (said : List ℕ) (m n k : ℕ) (o : Order) → IsLine (line.Request m n) said → IsLine (line.Order k o) said → ⊥
not_both said m n k (kind.AddAccount account secret) (rest, is, tail) (other, is', tail') =
    let same : command_word command.Request ≡ command_word command.AddAccount =
    (word_is said (command_word command.Request) rest other command.AddAccount
    (word_lacks command.Request, is) is').0 in cc
not_both said m n k (kind.DisableAccount account) (rest, is, tail) (other, is', tail') =
    let same : command_word command.Request ≡ command_word command.DisableAccount =
    (word_is said (command_word command.Request) rest other command.DisableAccount
    (word_lacks command.Request, is) is').0 in cc
not_both said m n k (kind.ApproveRequest decided) (rest, is, tail) (other, is', tail') =
    let same : command_word command.Request ≡ command_word command.ApproveRequest =
    (word_is said (command_word command.Request) rest other command.ApproveRequest
    (word_lacks command.Request, is) is').0 in cc
not_both said m n k (kind.RejectRequest decided) (rest, is, tail) (other, is', tail') =
    let same : command_word command.Request ≡ command_word command.RejectRequest =
    (word_is said (command_word command.Request) rest other command.RejectRequest
    (word_lacks command.Request, is) is').0 in cc

pub no_order_request : (text said : List ℕ) (m n : ℕ) → text ≡ said ++ 10 ∷ [] → IsLine (line.Request m n) said
    → (k : ℕ) (o : Order) → IsWritten (order k o) text → ⊥
no_order_request text said m n ends asks k o written =
    let (front, is, ends') = order_parts k o text written in
    not_both said m n k o asks (rw (same_line text said front ends ends') is)
