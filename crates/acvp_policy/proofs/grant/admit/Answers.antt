-- A caller that is refused is refused whatever the path names.
use Rattle.acvp_policy.proofs.CallerRules.{caller-admitted, caller-judged}
use Rattle.acvp_policy.proofs.grant.admit.Goals as goal

pub returns-clause-refused : goal.returns-clause-refused
returns-clause-refused c =
    caller-judged c.args.action c.args.facts.now c.claims_allow.result
    (rw (← c.scope-scope.ensures) c.claims_allow.ensures)

pub returns-clause-admitted : goal.returns-clause-admitted
returns-clause-admitted c =
    caller-admitted c.args.action c.args.facts.now c.claims_allow.result
    (rw (← c.scope-scope.ensures) c.claims_allow.ensures)
