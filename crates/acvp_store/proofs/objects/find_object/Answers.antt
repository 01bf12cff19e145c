use Rattle.std.proofs.Common.{◌∙◌}
use Rattle.std.specs.Prelude.{filter}
use Rattle.acvp_store.proofs.Words.{AreWellNumbered, columns_of_object, FitColumns, HoldsObjects, IfOk-weaker, is_of}
use Rattle.acvp_store.proofs.Words.{IsKeepable, kind_number, object_columns, option_to_list}
use Rattle.acvp_store.proofs.PageRows.{is_it, object_found, first_object}
use Rattle.acvp_store.proofs.RowsMet.{object_met}
use Rattle.acvp_store.proofs.Finding.{is_query, met_as_found, ObjectAt, one_listed, read_as}
use Rattle.acvp_store.proofs.objects.find_object.Goals as goal

pub returns-clause-read : goal.returns-clause-read
returns-clause-read g c =
    read_as c.asked.result c.answered.result _ _ c.answered.ensures.ok
    (c.asked.ensures.read (λ live. (c.requires live).ready) (is_query ObjectAt))

pub returns-clause-found : goal.returns-clause-found
returns-clause-found g c live =
    let store = c.requires ((returns-clause-read g c).stays.was_open live) in
    let n = c.args.number in
    let kind = c.args.kind in
    IfOk-weaker c.answered.result _ _ (λ found is d sound held fit. is d sound (held, fit) ∙ first_object kind n
    d.objects)
    (one_listed AreWellNumbered (λ d. HoldsObjects _ d.objects × FitColumns d.objects) IsKeepable object_columns
    c.asked.result (λ v. v.items) c.answered.result (λ d. filter (is_it kind n) d.objects) c.answered.ensures.ok
    c.answered.ensures.found
    (IfOk-weaker c.asked.result _ _
    (λ rows shown d sound held. object_found store.schema.0 kind n _ c.key.ensures.fits
    c.key.ensures.too_large _ _ rows.items store.schema.1
    (rw (c.to_sql.ensures, c.kind_number.ensures) at shown)
    d.objects held.0 held.1) (c.asked.ensures.shown live)))

pub returns-clause-judged : goal.returns-clause-judged
returns-clause-judged g c live low =
    let store = c.requires ((returns-clause-read g c).stays.was_open live) in
    met_as_found (is_of (kind_number c.args.kind) c.args.number) columns_of_object object_columns _ (λ row x is. is) _
    (λ v. v.items) option_to_list c.asked.result c.answered.result c.answered.ensures.ok
    c.answered.ensures.judged
    (IfOk-weaker c.asked.result _ _
    (λ rows shown. object_met store.schema.0 (kind_number c.args.kind) c.args.number _ low c.key.ensures.fits
    _ _ rows.items store.schema.1
    (rw (c.to_sql.ensures, c.kind_number.ensures) at shown))
    (c.asked.ensures.shown live))
