use Rattle.std.proofs.Common.{sym, ◌∙◌}
use Rattle.acvp_desk.proofs.find.account_counts.Goals as goal

pub returns-clause-found : goal.returns-clause-found
returns-clause-found g c =
    λ live seeds content kept h. c.in_ok-counts.ensures.found live content kept.sound h
    ∙ sym (c.selections_follow.ensures.counts c.args.account content)
