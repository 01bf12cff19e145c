use Rattle.std.proofs.Common.{arith, rules}
use Rattle.std.specs.Prelude.{nat_lt}
use Rattle.std.proofs.lemmas.List.Sorted.{IsPartitionPoint-from_clause}
use Rattle.acvp_check.proofs.NearLemmas.{is_below, parted_before}
use Rattle.acvp_check.proofs.near.before.Goals as goal

pub returns : goal.returns
returns g c =
    let parted = parted_before g.R.OfSession.session c.args.rows.now c.args.session c.requires in
    let point = IsPartitionPoint-from_clause (λ row. nat_lt (g.R.OfSession.session row) c.args.session)
    c.args.rows.now _ c.partition_point.ensures.partitioned parted (λ a r q k. search rules) in
    λ k d few. is_below _ _ (point.0 k d (omega arith) few)
