use Rattle.std.proofs.Common.{None, Some}
use Rattle.std.proofs.lemmas.Bool.Decides.{Decides-eqb}
use Rattle.std.proofs.lemmas.Slice.Eq.{strip_suffix_is}
use Rattle.acvp_http.proofs.NumberLemmas.{inner-from, inner-other}
use Rattle.acvp_http.proofs.routes.inner.Goals as goal

pub returns-in_err-whole : goal.returns-in_err-whole
returns-in_err-whole c = rw c.from_residual.ensures
    (inner-other c.args.text.now c.args.front.now c.args.back.now
    (strip_suffix_is Decides-eqb c.args.text.now c.args.back.now None c.in_err-whole.ensures.cases))

pub returns : goal.returns
returns c = inner-from c.args.text.now c.args.front.now c.args.back.now c.in_ok-whole.whole.now c.last.result
    (strip_suffix_is Decides-eqb c.args.text.now c.args.back.now (Some c.in_ok-whole.whole) c.in_ok-whole.ensures.cases)
    c.last.ensures
