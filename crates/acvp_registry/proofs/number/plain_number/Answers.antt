use Rattle.std.proofs.Common.{◌≢◌, ◌<◌, length, arith, get_or, None}
use Rattle.acvp_registry.proofs.NumberLemmas.{leading_zero, plain_is}
use Rattle.acvp_registry.proofs.PlainLemmas.{plain_of_is}
use Rattle.acvp_registry.proofs.number.plain_number.Goals.{else-text-gt1-via-then-text-gt1+else-text-eq48}
use Rattle.acvp_registry.proofs.number.plain_number.Goals.{else-text-gt1-via-else-text-gt1}
use Rattle.acvp_registry.proofs.number.plain_number.Goals as goal

pub returns-then-text-eq48-clause-written : goal.returns-then-text-eq48-clause-written
returns-then-text-eq48-clause-written c = leading_zero c.args.text.now c.if-text-gt1.true c.if-text-eq48.true

pub returns-then-text-eq48-clause-value : goal.returns-then-text-eq48-clause-value
returns-then-text-eq48-clause-value c =
    plain_of_is c.args.text.now None (leading_zero c.args.text.now c.if-text-gt1.true c.if-text-eq48.true)

pub returns-clause-written : goal.returns-clause-written
returns-clause-written c =
    let plain : 1 < length c.args.text.now → get_or c.args.text.now 0 0 ≢ 48 =
    elim c.else-text-gt1.branch [
      | else-text-gt1-via-then-text-gt1+else-text-eq48 w ↦
          λ long. w.if-text-eq48.false
      | else-text-gt1-via-else-text-gt1 w ↦ λ long zero. omega arith
    ] in
    plain_is c.args.text.now c.digits_number.result plain c.digits_number.ensures.value

pub returns-clause-value : goal.returns-clause-value
returns-clause-value c = plain_of_is c.args.text.now c.digits_number.result (returns-clause-written c)
