use Rattle.acvp_store.proofs.Words.{AreWellNumbered, FitColumns, HoldsObjects, IfOk-weaker, IsKeepable, object_columns}
use Rattle.acvp_store.proofs.PageRows.{object_page}
use Rattle.acvp_store.proofs.Finding.{all_listed, is_query, ObjectPage, read_as}
use Rattle.acvp_store.proofs.objects.page_objects.Goals as goal

pub returns-clause-read : goal.returns-clause-read
returns-clause-read g c =
    read_as c.asked.result c.listed.result _ _ c.listed.ensures.ok
    (c.asked.ensures.read (λ live. (c.requires live).ready) (is_query ObjectPage))

pub returns-clause-found : goal.returns-clause-found
returns-clause-found g c live =
    let store = c.requires ((returns-clause-read g c).stays.was_open live) in
    IfOk-weaker c.listed.result _ _ (λ found is d sound held fit. is d sound (held, fit))
    (all_listed AreWellNumbered (λ d. HoldsObjects _ d.objects × FitColumns d.objects) IsKeepable object_columns
    c.asked.result (λ v. v.items) c.listed.result (λ v. v.items) _ c.listed.ensures.ok c.listed.ensures.found
    (IfOk-weaker c.asked.result _ _
    (λ rows shown d sound held. object_page store.schema.0 c.args.kind c.args.account c.args.offset c.args.limit _ _
    rows.items store.schema.1
    (rw (
      c.page_of-at.ensures.first,
      c.page_of-at.ensures.last,
      c.page_of-at.ensures.limit,
      c.to_sql.ensures,
      c.kind_number.ensures,
    ) at shown) d sound held.0 held.1)
    (c.asked.ensures.shown live)))
