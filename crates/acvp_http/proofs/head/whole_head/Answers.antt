use Rattle.std.proofs.Common.{◌≤◌, [], length, arith, sym, ◌∙◌, ap, append-nil}
use Rattle.httparse.specs.Grammar.{print_request}
use Rattle.acvp_http.proofs.HeadLemmas.{fields_few}
use Rattle.acvp_http.proofs.head.whole_head.Goals as goal

-- the parse is complete, but not over the whole block
pub returns-in_default : goal.returns-in_default
returns-in_default c = λ head reads.
    let few : length head.fields ≤ 64 = fields_few c.args.block.now head reads c.requires in
    let found = rw c.in-Ok-Complete.field-0-is at (c.in-Ok-Complete.ensures.found head [] reads (omega arith)) in
    c.if-spans-block.false (found.len ∙ sym (ap length (reads.1 ∙ append-nil (print_request head))))

-- the parse failed
pub returns-in_default-3 : goal.returns-in_default-3
returns-in_default-3 c = λ head reads.
    let few : length head.fields ≤ 64 = fields_few c.args.block.now head reads c.requires in
    rw c.in_default.is at (c.parse_request.ensures.found head [] reads (omega arith))
