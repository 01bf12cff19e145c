use Rattle.std.proofs.Common.{◌∙◌}
use Rattle.acvp_store.proofs.PageRows.{owner_rows, owners, first_owner}
use Rattle.acvp_store.proofs.Finding.{is_query, OwnerAt, read_as, told, unread}
use Rattle.acvp_store.proofs.objects.find_owner.Goals as goal

pub returns-clause-read : goal.returns-clause-read
returns-clause-read g c =
    read_as c.asked.result c.answered.result _ _ c.answered.ensures.ok
    (c.asked.ensures.read (λ live. (c.requires live).ready) (is_query OwnerAt))

pub returns-clause-found : goal.returns-clause-found
returns-clause-found g c live =
    let store = c.requires ((returns-clause-read g c).stays.was_open live) in
    told c.asked.result c.answered.result c.answered.ensures.ok _ _ _ (λ rows row is shown objects h fit.
    is (owners c.args.kind c.args.number objects) (unread _) (owner_rows store.schema.0 c.args.kind c.args.number _
    c.key.ensures.fits c.key.ensures.too_large _ _ rows.items store.schema.1
    (rw (c.to_sql.ensures, c.kind_number.ensures) at shown)
    objects h fit) ∙ first_owner c.args.kind c.args.number objects)
    c.answered.ensures.found (c.asked.ensures.shown live)
