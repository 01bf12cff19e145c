use Rattle.std.proofs.Common.{◌≡◌, ◌++◌, drop}
use Rattle.acvp_desk.proofs.SetLemmas.{missing_in}
use Rattle.acvp_desk.proofs.set.all_missing.Given as goal

abbrev pub invariant-loop-group : goal.invariant-loop-group
invariant-loop-group l = l.verdicts.items ++ missing_in (drop l.group-index l.prompts.groups)
    ≡ missing_in l.prompts.groups
