use Rattle.std.proofs.Common.{sym, arith, refl}
use Rattle.std.proofs.lemmas.List.{length-take-le, take_all}
use Rattle.acvp_http.specs.Asks.{window}
use Rattle.acvp_http.proofs.request.window_of.Goals as goal

pub slice_bounds-result-end : goal.slice_bounds-result-end
slice_bounds-result-end c = sym (length-take-le 16384 c.args.bytes.now (omega arith))

pub returns-then-bytes-le-HEAD_BYTES-clause-value : goal.returns-then-bytes-le-HEAD_BYTES-clause-value
unfolding window
returns-then-bytes-le-HEAD_BYTES-clause-value c = sym (take_all 16384 c.args.bytes.now c.if-bytes-le-HEAD_BYTES.true)

pub returns-else-bytes-le-HEAD_BYTES-clause-value : goal.returns-else-bytes-le-HEAD_BYTES-clause-value
unfolding window
returns-else-bytes-le-HEAD_BYTES-clause-value c = refl

pub returns-else-bytes-le-HEAD_BYTES-clause-within : goal.returns-else-bytes-le-HEAD_BYTES-clause-within
returns-else-bytes-le-HEAD_BYTES-clause-within c = omega (arith, length-take-le 16384 c.args.bytes.now (omega arith))
