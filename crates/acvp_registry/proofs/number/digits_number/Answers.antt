use Rattle.std.proofs.Common.{◌≡◌, ◌^◌, ◌<◌, ◌≤◌, arith, take, length, sym, ◌∙◌}
use Rattle.std.proofs.lemmas.List.{take_all}
use Rattle.std.specs.Str.Parse.{digits_value}
use Rattle.acvp_registry.proofs.NumberLemmas.{number_of_other, number_of_digits, room, digits_step}
use Rattle.acvp_registry.proofs.PlainLemmas.{digits_number_of-short}
use Rattle.acvp_registry.proofs.number.digits_number.Goals as goal

pub returns-then-not-is_ascii_digit-clause-value : goal.returns-then-not-is_ascii_digit-clause-value
returns-then-not-is_ascii_digit-clause-value c =
    number_of_other c.args.text.now c.loop-digit.digit-index (omega arith) (sym c.is_ascii_digit.ensures.value
    ∙ c.if-not-is_ascii_digit.true)

pub overflow_mul-number : goal.overflow_mul-number
overflow_mul-number c =
    let low : digits_value 10 (take c.loop-digit.digit-index c.args.text.now) < 10 ^ 18 =
    room c.args.text.now c.loop-digit.digit-index (omega arith) (omega arith) c.loop-digit.invariant.digits in
    omega arith

pub overflow_add-number : goal.overflow_add-number
overflow_add-number c =
    let low : digits_value 10 (take c.loop-digit.digit-index c.args.text.now) < 10 ^ 18 =
    room c.args.text.now c.loop-digit.digit-index (omega arith) (omega arith) c.loop-digit.invariant.digits in
    omega arith

pub loop-digit-preserved : goal.loop-digit-preserved
loop-digit-preserved c =
    let step = digits_step c.args.text.now c.loop-digit.digit-index c.loop-digit.number
    (omega arith) c.loop-digit.invariant.digits c.loop-digit.invariant.value (sym c.is_ascii_digit.ensures.value
    ∙ c.if-not-is_ascii_digit.false) in
    record { digits = step.0; value = rw c.from.ensures step.1 }

pub returns-clause-value : goal.returns-clause-value
returns-clause-value c =
    let whole : take c.loop-digit.digit-index c.args.text.now ≡ c.args.text.now =
    take_all c.loop-digit.digit-index c.args.text.now (omega arith) in
    let some : 1 ≤ length c.args.text.now = grind (arith, c.is_empty.ensures, c.if-is_empty.false) in
    rw (c.loop-digit.invariant.value, whole) (number_of_digits c.args.text.now some (omega arith)
    (rw whole at c.loop-digit.invariant.digits))

pub returns-clause-size : goal.returns-clause-size
returns-clause-size c = digits_number_of-short c.args.text.now c.loop-digit.number (length c.args.text.now)
    (omega arith) (returns-clause-value c)
