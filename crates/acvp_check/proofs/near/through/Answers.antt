use Rattle.std.proofs.Common.{rules}
use Rattle.std.specs.Prelude.{nat_le}
use Rattle.std.proofs.lemmas.List.Sorted.{IsPartitionPoint-from_clause}
use Rattle.acvp_check.proofs.NearLemmas.{is_above, parted_through}
use Rattle.acvp_check.proofs.near.through.Goals as goal

pub returns-clause-later : goal.returns-clause-later
returns-clause-later g c =
    let parted = parted_through g.R.OfSession.session c.args.rows.now c.args.session c.requires in
    let point = IsPartitionPoint-from_clause (λ row. nat_le (g.R.OfSession.session row) c.args.session)
    c.args.rows.now _ c.partition_point.ensures.partitioned parted (λ a r q k. search rules) in
    λ k d behind few. is_above _ _ (point.1 k d behind few)
