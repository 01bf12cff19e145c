use Rattle.std.proofs.Common.{arith, rules}
use Rattle.std.specs.Prelude.{nat_lt}
use Rattle.std.proofs.lemmas.List.Sorted.{IsPartitionPoint-from_clause}
use Rattle.acvp_check.proofs.NearLemmas.{is_at_least, is_below, parted_lower}
use Rattle.acvp_check.proofs.near.lower.Goals as goal

pub returns-clause-before : goal.returns-clause-before
returns-clause-before g c =
    let parted = parted_lower g.R.Numbered.number c.args.rows.now c.args.number c.requires in
    let point = IsPartitionPoint-from_clause (λ row. nat_lt (g.R.Numbered.number row) c.args.number) c.args.rows.now _
    c.partition_point.ensures.partitioned parted (λ a r q k. search rules) in
    λ k d few. is_below _ _ (point.0 k d (omega arith) few)

pub returns-clause-behind : goal.returns-clause-behind
returns-clause-behind g c =
    let parted = parted_lower g.R.Numbered.number c.args.rows.now c.args.number c.requires in
    let point = IsPartitionPoint-from_clause (λ row. nat_lt (g.R.Numbered.number row) c.args.number) c.args.rows.now _
    c.partition_point.ensures.partitioned parted (λ a r q k. search rules) in
    λ k d behind few. is_at_least _ _ (point.1 k d behind few)
