use Rattle.std.proofs.Common.{ap, sym, ◌∙◌}
use Rattle.std.specs.Prelude.{option_map}
use Rattle.acvp_tables.specs.Content.{request_at, request_summary}
use Rattle.acvp_tables.specs.State.{owner_of, state_of}
use Rattle.acvp_tables.specs.declared.rows.RequestRow.{RequestRow}
use Rattle.acvp_desk.proofs.Elsewhere.{none_elsewhere}
use Rattle.acvp_desk.proofs.own_rows.own_request.Goals as goal

pub returns-then-not-is_of_account-clause-found : goal.returns-then-not-is_of_account-clause-found
unfolding state_of
returns-then-not-is_of_account-clause-found g c =
    λ live seeds content kept h.
    sym (ap (option_map request_summary)
    (none_elsewhere (λ (row : RequestRow). row.account) c.args.account (owner_of c.args.number)
    (request_at c.args.number content.requests)
    (λ row is. c.numbers_name.ensures.request c.args.number (state_of content) row kept.sound is)
    (sym c.is_of_account.ensures ∙ c.if-not-is_of_account.true)))
