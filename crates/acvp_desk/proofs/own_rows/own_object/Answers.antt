use Rattle.std.proofs.Common.{sym, ◌∙◌}
use Rattle.acvp_tables.specs.Content.{object_at}
use Rattle.acvp_tables.specs.State.{owner_of, state_of}
use Rattle.acvp_tables.specs.declared.rows.ObjectRow.{ObjectRow}
use Rattle.acvp_desk.proofs.Elsewhere.{none_elsewhere}
use Rattle.acvp_desk.proofs.own_rows.own_object.Goals as goal

pub returns-then-not-is_of_account-clause-found : goal.returns-then-not-is_of_account-clause-found
unfolding state_of
returns-then-not-is_of_account-clause-found g c =
    λ live content sound h.
    sym (none_elsewhere (λ (row : ObjectRow). row.account) c.args.account (owner_of c.args.number)
    (object_at c.args.kind c.args.number content.objects)
    (λ row is. c.numbers_name.ensures.object c.args.number c.args.kind (state_of content) row sound is)
    (sym c.is_of_account.ensures ∙ c.if-not-is_of_account.true))
