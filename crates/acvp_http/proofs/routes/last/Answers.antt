use Rattle.std.proofs.Common.{None, Some}
use Rattle.std.proofs.lemmas.Bool.Decides.{Decides-eqb}
use Rattle.std.proofs.lemmas.Slice.Eq.{strip_prefix_is}
use Rattle.acvp_http.proofs.NumberLemmas.{last-from, last-other}
use Rattle.acvp_http.proofs.routes.last.Goals as goal

pub returns-in_err-digits : goal.returns-in_err-digits
returns-in_err-digits c =
    rw c.from_residual.ensures
    (last-other c.args.text.now c.args.front.now
    (strip_prefix_is Decides-eqb c.args.text.now c.args.front.now None c.in_err-digits.ensures.cases))

pub returns : goal.returns
returns c = last-from c.args.text.now c.args.front.now c.in_ok-digits.digits.now c.plain_number.result
    (strip_prefix_is Decides-eqb c.args.text.now c.args.front.now
    (Some c.in_ok-digits.digits) c.in_ok-digits.ensures.cases) c.plain_number.ensures.written
