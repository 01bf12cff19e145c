use Rattle.acvp_tables.specs.Changes.{after_order}
use Rattle.acvp_tables.proofs.CountsKept.{counted_after}
use Rattle.acvp_tables.proofs.laws.counts_are_kept.Goals as goal

pub returns : goal.returns
unfolding after_order
returns c = record {
  change = λ it content sound next count counted. counted_after it content sound next count counted;
  order = λ it content counted. counted;
}
