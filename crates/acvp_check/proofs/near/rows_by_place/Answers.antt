use Rattle.std.proofs.Common.{◌≤◌, ap, sym, subst, ◌∙◌, arith}
use Rattle.std.specs.Prelude.{drop}
use Rattle.acvp_check.specs.Near.{AreItsRows}
use Rattle.acvp_check.proofs.NearLemmas.{its_rows}
use Rattle.acvp_check.proofs.near.rows_by_place.Goals as goal

pub returns : goal.returns
returns g c =
    let lo = c.before-2.result in
    let m = c.min-start.result in
    let n = c.through-end.result in
    let low : m ≤ lo = omega (arith, c.min-start.ensures) in
    let in_front : m ≤ n = omega (arith, c.min-start.ensures) in
    subst (AreItsRows g.R.OfSession.session c.args.session c.args.rows.now)
    (sym (c.split_at-2.ensures.back ∙ ap (drop m) c.split_at.ensures.front))
    (its_rows g.R.OfSession.session c.args.session c.args.rows.now lo m n low in_front c.through-end.ensures.bound
    c.before-2.ensures c.through-end.ensures.later)
