use Rattle.std.proofs.Common.{◌≡◌, ◌-◌, ◌∙◌, false, sym, inr, arith}
use Rattle.std.proofs.lemmas.Bool.Decides.{nat_tests}
use Rattle.std.proofs.lemmas.Result.{err_from_is_err_and}
use Rattle.std.specs.Prelude.{nat_lt}
use Rattle.acvp_http.specs.Asks.{line_count}
use Rattle.acvp_http.proofs.head.parse_block.Goals as goal

pub returns-in_err-size : goal.returns-in_err-size
returns-in_err-size c =
    let few : nat_lt 64 (line_count c.args.block.now - 2) ≡ false = grind (arith, nat_tests) in
    let (head, at) = c.in-Some.ensures in
    let told = rw (c.of-method.ensures, at.parts.method, at.parts.version, at.parts.fields) at (sym c.body_size.ensures
    ∙ c.in_err-size.was) in
    let p = err_from_is_err_and c.from_residual.result c.from_residual.ensures.1 in
    rw (p.1, p.2, few) (inr (head, at.reads, told))
