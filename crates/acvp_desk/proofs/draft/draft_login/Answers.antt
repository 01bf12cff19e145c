use Rattle.std.proofs.Common.{sym, ◌∙◌}
use Rattle.acvp_desk.proofs.LoginLemmas.{needs_account, needs_step}
use Rattle.acvp_desk.proofs.draft.draft_login.Goals as goal

pub returns-in_default-clause-denied : goal.returns-in_default-clause-denied
returns-in_default-clause-denied c =
    absurd (needs_account c.args.moment c.args.login.now c.args.account.now c.requires.held c.in_default.is)

pub returns-in_default-login_step-clause-denied : goal.returns-in_default-login_step-clause-denied
returns-in_default-login_step-clause-denied c =
    absurd (needs_step c.args.moment c.args.login.now c.args.account.now c.in-Some.row c.requires.held c.in-Some.is
    (sym c.login_step.ensures ∙ c.in_default-login_step.is))
