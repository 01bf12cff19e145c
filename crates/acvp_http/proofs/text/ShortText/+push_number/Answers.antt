use Rattle.std.proofs.Common.{◌/◌, ◌≤◌, length, decimal, arith, length-append}
use Rattle.std.proofs.lemmas.Fmt.{decimal_digit, decimal_step, length-decimal-le}
use Rattle.acvp_http.proofs.ListLemmas.{append_twice}
use Rattle.acvp_http.proofs.text.ShortText.+push_number.Goals as goal

pub push_byte-requires-2 : goal.push_byte-requires-2
push_byte-requires-2 t c =
    let short : length (decimal (c.args.number / 10)) ≤ 19 =
    length-decimal-le 19 (c.args.number / 10) (omega arith) (omega arith) (omega arith) in
    rw c.push_number.ensures.bytes (rw length-append (omega arith))

pub returns-then-number-lt10-clause-bytes : goal.returns-then-number-lt10-clause-bytes
returns-then-number-lt10-clause-bytes t c =
    rw (decimal_digit c.args.number c.if-number-lt10.true) c.push_byte.ensures.bytes

pub returns-clause-bytes : goal.returns-clause-bytes
returns-clause-bytes t c =
    rw (decimal_step c.args.number c.if-number-lt10.false (omega arith))
    (append_twice c.args.self.now c.push_number.new.self c.push_byte-2.new.self _ _ c.push_number.ensures.bytes
    c.push_byte-2.ensures.bytes)

pub returns-clause-len : goal.returns-clause-len
returns-clause-len t c =
    let short : length (decimal c.args.number) ≤ 20 =
    length-decimal-le 20 c.args.number (omega arith) (omega arith) (omega arith) in
    rw (returns-clause-bytes t c) (rw length-append (omega arith))
