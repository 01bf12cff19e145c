use Rattle.std.proofs.Common.{sym}
use Rattle.acvp_http.proofs.MethodLemmas.{chosen_listed}
use Rattle.acvp_http.proofs.path.Methods.asked.Goals as goal

pub returns : goal.returns
returns c =
    rw (
      c.or-3.ensures,
      c.or-2.ensures,
      c.or.ensures,
      c.only.ensures,
      c.only-2.ensures,
      c.only-3.ensures,
      c.only-4.ensures,
    )
    (sym (chosen_listed c.args.method.now c.args.self))
