-- What a log knows of what is being served.
use Rattle.std.specs.Prelude.{◌≡◌, ◌⊎◌, ℕ, List, Option, Some, None}
use Rattle.acvp_desk.specs.declared.order.Order.{Order}
use Rattle.acvp_http.specs.Event.{order}
use Rattle.acvp_http.specs.Script.{IsWritten}
use Rattle.acvp_log.specs.declared.log.Log.{Log}
use Rattle.acvp_log.specs.Lines.{named_command, named_number, word_asked}

-- the moment at which it was handed on
abbrev pub moment_begun : Log → ℕ
moment_begun log = log.begun.moment

-- the word of the order, and the number that it names
abbrev pub order_begun : Log → Option (List ℕ) × Option ℕ
order_begun log = (word_asked log.begun.order.0, log.begun.order.1)

-- those of the order that the line is, or none where it is no order
abbrev pub IsBegunBy : List ℕ → Option (List ℕ) × Option ℕ → Type 0
IsBegunBy line begun =
    ((moment : ℕ) × (it : Order) × IsWritten (order moment it) line
    × (begun ≡ (Some (named_command it), Some (named_number it))))
    ⊎ (((moment : ℕ) (it : Order) → IsWritten (order moment it) line → ⊥) × (begun ≡ (None, None)))
