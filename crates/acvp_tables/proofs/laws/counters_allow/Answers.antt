use Rattle.acvp_tables.proofs.Bounds.{one_live, one_passed}
use Rattle.acvp_tables.proofs.laws.counters_allow.Goals as goal

pub returns : goal.returns
returns k = record {
  live = λ session set c sound counted there. one_live session set c counted there;
  passed = λ session set c sound counted there has. one_passed session set c counted there has;
}
