use Rattle.std.proofs.Common.{◌∙◌, codes, decimal, ◌/◌}
use Rattle.std.proofs.lemmas.Result.{IfOk-weaker}
use Rattle.acvp_json.proofs.UrlLemmas.{four}
use Rattle.acvp_json.proofs.urls.set_url.Goals as goal

pub returns : goal.returns
returns c = IfOk-weaker c.format.result _ _
    (λ text is. is ∙ four (codes "/acvp/v1/testSessions/") (decimal (c.args.vs / 100)) (codes "/vectorSets/")
    (decimal c.args.vs)) c.format.ensures.ok
