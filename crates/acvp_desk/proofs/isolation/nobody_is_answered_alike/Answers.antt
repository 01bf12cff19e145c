use Rattle.acvp_desk.proofs.Nobody.{answered_alike, nothing_changed, nothing_made}
use Rattle.acvp_desk.proofs.isolation.nobody_is_answered_alike.Goals as goal

pub returns : goal.returns
returns g = record {
  answer = λ keys moment r one other nobody. answered_alike keys moment r one other nobody;
  change = λ keys moment r state nobody. nothing_made keys moment r state nobody;
  effect = λ keys moment r state nobody. nothing_changed keys moment r state nobody;
}
