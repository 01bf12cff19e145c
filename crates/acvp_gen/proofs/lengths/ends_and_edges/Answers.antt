use Rattle.std.proofs.Common.{ap, length, arith}
use Rattle.std.specs.Prelude.{nat_eq}
use Rattle.std.proofs.lemmas.List.Filters.{dedup_is}
use Rattle.acvp_gen.proofs.LengthLemmas.{in_order, few_candidates}
use Rattle.acvp_gen.proofs.lengths.ends_and_edges.Goals as goal

pub returns : goal.returns
returns c = record {
  value = in_order c.args.edges.now c.args.domain.now c.in_ok-lengths.lengths.items c.sort_unstable.new.self.items
      c.dedup.new.self.items c.requires c.in_ok-lengths.ensures
      c.sort_unstable.ensures.permutation c.sort_unstable.ensures.sorted
      (dedup_is nat_eq c.sort_unstable.new.self.items c.dedup.new.self.items c.dedup.ensures.filtered);
  few = omega (
    arith,
    c.dedup.ensures.bound,
    c.sort_unstable.ensures.len,
    few_candidates c.args.edges.now c.args.domain.now,
    ap length c.in_ok-lengths.ensures,
  );
}
