use Rattle.std.proofs.Common.{◌≡◌, ◌++◌, map}
use Rattle.std.specs.Prelude.{take}
use Rattle.acvp_answers.specs.declared.verdict.Verdict.TheVariants.{Missing}
use Rattle.acvp_desk.proofs.set.add_missing.Given as goal

abbrev pub invariant-loop-test : goal.invariant-loop-test
invariant-loop-test l = l.verdicts.items ≡ l.fn.verdicts.items ++ map (λ t. Missing) (take l._test-index l.group.tests)
