use Rattle.std.proofs.Common.{◌∙◌, codes, decimal}
use Rattle.std.proofs.lemmas.Result.{IfOk-weaker}
use Rattle.acvp_json.proofs.UrlLemmas.{five}
use Rattle.acvp_json.proofs.page.page_url.Goals as goal

pub returns : goal.returns
returns c = IfOk-weaker c.format.result _ _
    (λ text is. is ∙ five c.args.path.now (codes "?offset=") (decimal c.args.offset) (codes "&limit=")
    (decimal c.args.limit)) c.format.ensures.ok
