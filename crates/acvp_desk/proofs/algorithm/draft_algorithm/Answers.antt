use Rattle.std.proofs.Common.{sym, ◌∙◌}
use Rattle.acvp_json.specs.ReplyData.{reply_data}
use Rattle.acvp_desk.proofs.Allowed.{each_algorithm}
use Rattle.acvp_desk.proofs.algorithm.draft_algorithm.Goals as goal

pub returns-in_default-clause-denied : goal.returns-in_default-clause-denied
returns-in_default-clause-denied c =
    absurd (each_algorithm c.args.number c.requires (sym c.algorithm_at.ensures ∙ c.in_default.is))

pub returns-clause-reply : goal.returns-clause-reply
unfolding reply_data
returns-clause-reply c = rw (← c.algorithm_at.ensures, c.in-Some.is) c.told.ensures.reply
