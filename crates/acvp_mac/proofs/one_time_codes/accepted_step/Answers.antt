-- Each answer is the greatest acceptable step, or none where there is none, and that is one value.
use Rattle.std.proofs.Common.{rules, None, Some}
use Rattle.acvp_mac.proofs.AcceptedLemmas.{accepted-unique}
use Rattle.acvp_mac.proofs.one_time_codes.accepted_step.Goals as goal

pub returns-then-current_code-code-clause-value : goal.returns-then-current_code-code-clause-value
returns-then-current_code-code-clause-value c =
    accepted-unique c.args.secret.now c.args.last c.args.moment c.args.code (Some c.step_of-current.result)
    (search rules)

pub returns-in_err-earlier-clause-value : goal.returns-in_err-earlier-clause-value
returns-in_err-earlier-clause-value c =
    rw c.from_residual.ensures
    (accepted-unique c.args.secret.now c.args.last c.args.moment c.args.code None (search rules))

pub returns-then-earlier_code-code-clause-value : goal.returns-then-earlier_code-code-clause-value
returns-then-earlier_code-code-clause-value c =
    accepted-unique c.args.secret.now c.args.last c.args.moment c.args.code (Some c.in_ok-earlier.earlier)
    (search rules)

pub returns-clause-value : goal.returns-clause-value
returns-clause-value c =
    accepted-unique c.args.secret.now c.args.last c.args.moment c.args.code None (search rules)
