use Rattle.std.proofs.Common.{◌∙◌, codes, decimal, ◌/◌}
use Rattle.std.proofs.lemmas.Result.{IfOk-weaker}
use Rattle.acvp_json.proofs.UrlLemmas.{five}
use Rattle.acvp_json.proofs.urls.results_url.Goals as goal

pub returns : goal.returns
returns c = IfOk-weaker c.format.result _ _
    (λ text is. is ∙ five (codes "/acvp/v1/testSessions/") (decimal (c.args.vs / 100)) (codes "/vectorSets/")
    (decimal c.args.vs) (codes "/results")) c.format.ensures.ok
