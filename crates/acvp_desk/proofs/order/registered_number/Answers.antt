use Rattle.std.proofs.Common.{◌≤◌, ◌+◌, ap, ◌∙◌}
use Rattle.acvp_tables.specs.State.{first_of_account, state_of}
use Rattle.acvp_desk.proofs.DecidedRequest.{few_of_kind, registered_as}
use Rattle.acvp_desk.proofs.order.registered_number.Goals as goal

pub returns-clause-found : goal.returns-clause-found
returns-clause-found g c =
    λ live content sound h.
    let account = c.args.account in
    let kind = c.args.kind in
    let same = registered_as kind account content c.in_ok-count.count c.registered.result
    (c.selections_follow.ensures.counts account content)
    (c.in_ok-count.ensures.found live content sound h) c.registered.ensures.objects c.registered.ensures.none in
    let few : c.registered.result ≤ 999999 =
    rw same (few_of_kind c.numbers_count.ensures.objects (state_of content) sound account kind) in
    c.next_of_kind.ensures few ∙ ap (λ k. first_of_account account + k) same
