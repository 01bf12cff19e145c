use Rattle.std.proofs.Common.{◌≡◌, decimal}
use Rattle.acvp_commands.proofs.NumbersLemmas.{other_number, outside}
use Rattle.acvp_commands.proofs.numbers.number_within.Goals as goal

pub returns-else-number-ge1 : goal.returns-else-number-ge1
returns-else-number-ge1 c =
    let is : c.args.text.now ≡ decimal c.in_ok-number.number =
    cc (c.as_bytes.ensures.value, c.in_ok-number.ensures.written.1) in
    other_number c.args.most c.args.text.now c.in_ok-number.number c.requires c.in_ok-number.ensures.written.0 is
    (outside c.args.most c.in_ok-number.number c.else-number-ge1.either)
