use Rattle.acvp_tables.proofs.CountsKept.{kept_differs, cancelled_differs}
use Rattle.acvp_tables.proofs.laws.counts_differ_by_one.Goals as goal

pub returns : goal.returns
returns c = record {
  kept = λ k content sound counted there next. kept_differs k content sound counted there next;
  cancelled = λ x content sound counted there less fewer. cancelled_differs x content sound counted there less fewer;
}
