use Rattle.std.proofs.Common.{ap, ◌∙◌}
use Rattle.acvp_store.proofs.Words.{option_map, request_summary}
use Rattle.acvp_store.proofs.Told.{told}
use Rattle.acvp_store.proofs.QueryLeaves.{read_as}
use Rattle.acvp_store.proofs.requests.find_request.Goals as goal

pub returns-clause-read : goal.returns-clause-read
returns-clause-read g c =
    read_as c.find_whole_request.result c.summarized.result _ _ c.summarized.ensures.ok
    c.find_whole_request.ensures.read

pub returns-clause-found : goal.returns-clause-found
returns-clause-found g c live =
    told c.find_whole_request.result c.summarized.result c.summarized.ensures.ok _ _ _
    (λ row summary tells is d sound held. tells ∙ ap (option_map request_summary) (is d sound held))
    c.summarized.ensures.told (c.find_whole_request.ensures.found live)

pub returns-clause-judged : goal.returns-clause-judged
returns-clause-judged g c live low =
    told c.find_whole_request.result c.summarized.result c.summarized.ensures.ok _ _ _ (λ row summary tells met. met)
    c.summarized.ensures.told (c.find_whole_request.ensures.judged live low)
