use Rattle.std.proofs.Common.{◌≡◌, take}
use Rattle.acvp_answers.specs.VerdictText.{verdicts_text}
use Rattle.acvp_answers.proofs.verdict_text.verdicts_from_text.Given as goal

abbrev pub invariant-loop-letter : goal.invariant-loop-letter
invariant-loop-letter l = take l.letter-index l.letter-items ≡ verdicts_text l.verdicts.items
