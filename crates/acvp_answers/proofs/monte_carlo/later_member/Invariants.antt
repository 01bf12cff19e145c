use Rattle.std.proofs.Common.{ℕ, List}
use Rattle.std.specs.Fn.{iterate}
use Rattle.acvp_mac.specs.Hash.{digest_of}
use Rattle.acvp_answers.specs.MonteCarlo.{extended}
use Rattle.acvp_answers.specs.Private.Ending.{EndsIn}
use Rattle.acvp_answers.proofs.monte_carlo.later_member.Given as goal

abbrev pub invariant-loop : goal.invariant-loop
invariant-loop l =
    (members : List (List ℕ)) → EndsIn members l.fn.first l.fn.second l.fn.third
    → EndsIn (iterate (extended (digest_of l.name)) l.counter members) l.first l.second l.third
