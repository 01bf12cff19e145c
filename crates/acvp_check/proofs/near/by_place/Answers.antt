use Rattle.std.proofs.Common.{◌∙◌, arith, rules}
use Rattle.std.proofs.lemmas.Bool.Decides.{nat_tests}
use Rattle.acvp_check.proofs.NearLemmas.{apart_found, found_behind, other_at}
use Rattle.acvp_check.proofs.near.by_place.Goals as goal

pub returns-in_default : goal.returns-in_default
returns-in_default g c =
    apart_found g.R.Numbered.number c.args.number c.args.rows.now c.lower.result c.requires c.lower.ensures.before
    c.lower.ensures.behind (λ within d. absurd (grind (arith, nat_tests, c.in_default.ensures.lookup, within)))

pub returns-then-number : goal.returns-then-number
returns-then-number g c =
    found_behind g.R.Numbered.number c.args.number c.args.rows.now c.lower.result c.in-Some.row.now (search rules)
    (search rules) (grind (arith, nat_tests, c.if-number.true, c.number.ensures)) c.lower.ensures.before

pub returns-else-number : goal.returns-else-number
returns-else-number g c =
    apart_found g.R.Numbered.number c.args.number c.args.rows.now c.lower.result c.requires c.lower.ensures.before
    c.lower.ensures.behind (λ within d. other_at g.R.Numbered.number c.args.number c.args.rows.now
    c.lower.result c.in-Some.row.now d within (search rules) (λ is. c.if-number.false (c.number.ensures ∙ is)))
